-- What `resolve` answers: docs/language.md, "Names".
use Rattle.std.specs.Prelude.{◌≡◌, Result, Ok, Err}
use Rattle.pt_base.specs.declared.Rule.{Rule}
use Rattle.pt_base.specs.declared.Span.{Span}
use Rattle.pt_base.specs.declared.Refusal.{Refusal}
use Rattle.pt_base.specs.declared.Refusal.TheVariants.{Broken, Memory}
use Rattle.pc_grammar.specs.Trees.{Program}
use Rattle.pt_base.specs.First.{IsFirst}
use Rattle.pc_grammar.specs.Breaking.{Breaks}
use Rattle.pc_grammar.specs.Typing.{Typing, typing_of}

-- no rule on names is broken, and this is the tree with numbers for names
pub record Resolves (program : Program) (typing : Typing) : Type 0 where
  pub unbroken : (rule : Rule) (span : Span) → Breaks program.items program.length rule span → ⊥
  pub same : typing ≡ typing_of program.items program.length

-- the tree with numbers for names, or the first rule that is broken
abbrev pub IsResolved : Program → Result Typing Refusal → Type 0
IsResolved program (Ok typing) = Resolves program typing
IsResolved program (Err (Broken rule span)) = IsFirst (Breaks program.items program.length) rule span
IsResolved program (Err Memory) = Unit {0}
