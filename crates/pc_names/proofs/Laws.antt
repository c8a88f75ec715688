-- The first of the faults is the first rule that is broken.
use Rattle.std.proofs.Common.{◌≡◌, ℕ, List, None, Some}
use Rattle.pt_base.specs.declared.Rule.{Rule}
use Rattle.pt_base.specs.declared.Span.{Span}
use Rattle.pc_grammar.specs.declared.programs.Item.{Item}
use Rattle.pt_base.specs.First.{IsFirst}
use Rattle.pc_grammar.specs.Breaking.{Breaks}
use Rattle.pt_base.specs.First.{first_of}
use Rattle.pt_base.proofs.Least.{first_of_broken, none_broken}
use Rattle.pc_names.specs.Faults.{faults}
use Rattle.pc_names.proofs.Broken.{in_faults, is_broken}

pub first_broken : (items : List Item) (end : ℕ) (rule : Rule) (span : Span) → first_of None (faults items end) ≡ Some (rule, span) → IsFirst (Breaks items end) rule span
first_broken items end rule span is =
    first_of_broken (Breaks items end) (faults items end) (λ other another listed. is_broken items end (other, another) listed) (λ other another broken. in_faults items end broken) rule span is

pub nothing_broken : (items : List Item) (end : ℕ) → first_of None (faults items end) ≡ None → (rule : Rule) (span : Span) → Breaks items end rule span → ⊥
nothing_broken items end is = none_broken (Breaks items end) (faults items end) (λ rule span broken. in_faults items end broken) is
