-- Which sources keep every rule, and the first rule that another breaks: docs/language.md, "The verdict".
use Rattle.std.specs.Prelude.{ℕ, List, Result, Ok, Err}
use Rattle.pt_base.specs.First.{IsFirst}
use Rattle.pt_base.specs.declared.Rule.{Rule}
use Rattle.pt_base.specs.declared.Span.{Span}
use Rattle.pt_base.specs.declared.Refusal.{Refusal}
use Rattle.pt_base.specs.declared.Refusal.TheVariants.{Broken, Memory}
use Rattle.pc_grammar.specs.Trees.{Program}
use Rattle.pc_rules.specs.Sources.{IsSource, Breaks}
use Rattle.pc_grammar.specs.Breaking as names
use Rattle.pc_grammar.specs.Typing.{Typing}
use Rattle.pc_names.specs.Resolving.{Resolves}
use Rattle.pc_rules.specs.Judging.{IsWithin, IsFirstBroken}
use Rattle.pc_rules.specs.declared.verdicts.Accepted.{Accepted}

-- the text's tokens spell this program, which breaks no rule on names, loops and limits, and this is it with numbers for names
pub record IsAccepted (text : List ℕ) (program : Program) (typing : Typing) : Type 0 where
  pub source : IsSource text program
  pub resolved : Resolves program typing
  pub within : IsWithin typing

-- The first rule that the text breaks, by size, tokens, grammar, names, loops and limits in this order, and its place.
pub data BreaksFirst (text : List ℕ) (rule : Rule) (span : Span) : Type 0 where
  no_program : Breaks text rule span → BreaksFirst text rule span
  name_broken : (program : Program) → IsSource text program → IsFirst (names.Breaks program.items program.length) rule span → BreaksFirst text rule span
  rule_broken : (program : Program) (typing : Typing) → IsSource text program → Resolves program typing → IsFirstBroken typing rule span → BreaksFirst text rule span

-- the verdict: the program, or the first rule that is broken
abbrev pub IsJudgedText : List ℕ → Result Accepted Refusal → Type 0
IsJudgedText text (Ok accepted) = IsAccepted text accepted.program accepted.typed
IsJudgedText text (Err (Broken rule span)) = BreaksFirst text rule span
IsJudgedText text (Err Memory) = Unit {0}
