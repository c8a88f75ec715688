-- What a program with numbers for names keeps: docs/language.md, "Names".
use Rattle.std.specs.Prelude.{◌≡◌, Bool, List}
use Rattle.pt_base.specs.declared.Rule.{Rule}
use Rattle.pt_base.specs.declared.Span.{Span}
use Rattle.pc_grammar.specs.Trees.{Program, IsTree}
use Rattle.pc_grammar.specs.Breaking.{Breaks}
use Rattle.pc_grammar.specs.Finishing.{finishing}
use Rattle.pc_grammar.specs.Typing.{Typing, typing_of}

-- it is that of a program of the grammar that breaks no rule on names
pub record IsTyped (typing : Typing) : Type 0 where
  pub program : Program
  pub tree : IsTree program
  pub unbroken : (rule : Rule) (span : Span) → Breaks program.items program.length rule span → ⊥
  pub same : typing ≡ typing_of program.items program.length

-- beside it stands of each function whether it may finish
pub record Keeps (typing : Typing) (known : List Bool) : Type 0 where
  pub typed : IsTyped typing
  pub known_is : known ≡ finishing typing.functions
