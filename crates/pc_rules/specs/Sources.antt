-- Which texts are programs, and the first rule that another breaks: docs/language.md, "Refused programs".
use Rattle.std.specs.Prelude.{◌≡◌, ℕ, ◌<◌, ◌≤◌, List, length, Result, Ok, Err}
use Rattle.pt_base.specs.First.{end_of}
use Rattle.pt_base.specs.declared.limits.TheConstants.{MOST_SOURCE_BYTES}
use Rattle.pt_base.specs.declared.Rule.{Rule}
use Rattle.pt_base.specs.declared.Rule.TheVariants.{Z1}
use Rattle.pt_base.specs.declared.Span.{Span}
use Rattle.pt_base.specs.declared.Refusal.{Refusal}
use Rattle.pt_base.specs.declared.Refusal.TheVariants.{Broken, Memory}
use Rattle.pc_grammar.specs.declared.Token.{Token}
use Rattle.pc_grammar.specs.Lexing.{Lexes, whole, broken}
use Rattle.pc_grammar.specs.Programs.{IsProgram, IsBroken}
use Rattle.pc_grammar.specs.Trees.{Program}

-- the text's tokens spell this program
pub record IsSource (text : List ℕ) (program : Program) : Type 0 where
  pub short : length text ≤ MOST_SOURCE_BYTES
  pub tokens : List Token
  pub cut : Lexes 0 text tokens whole
  pub spelled : IsProgram text tokens program.items
  pub length_is : program.length ≡ length text

-- The first rule that the text breaks, by size, tokens and grammar in this order, and its place.
pub data Breaks (text : List ℕ) (rule : Rule) (span : Span) : Type 0 where
  too_long : MOST_SOURCE_BYTES < length text → rule ≡ Z1 → span ≡ end_of MOST_SOURCE_BYTES → Breaks text rule span
  no_tokens : (tokens : List Token) → length text ≤ MOST_SOURCE_BYTES → Lexes 0 text tokens (broken rule span.from span.to) → Breaks text rule span
  no_program : (tokens : List Token) → length text ≤ MOST_SOURCE_BYTES → Lexes 0 text tokens whole → IsBroken text tokens (length text) rule span → Breaks text rule span

-- the program, or why there is none
abbrev pub IsRead : List ℕ → Result Program Refusal → Type 0
IsRead text (Ok program) = IsSource text program
IsRead text (Err (Broken rule span)) = Breaks text rule span
IsRead text (Err Memory) = Unit {0}
