-- Which tokens spell a program, and the place where they are refused: docs/language.md, "Items" and "Refused programs".
use Rattle.std.specs.Prelude.{◌≡◌, ℕ, List, [], ◌∷◌, ◌++◌}
use Rattle.pt_base.specs.First.{end_of}
use Rattle.pt_base.specs.declared.rules.Rule.{Rule}
use Rattle.pt_base.specs.declared.rules.Rule.TheVariants.{S1}
use Rattle.pt_base.specs.declared.rules.Span.{Span}
use Rattle.pt_base.specs.declared.rules.Refusal.{Refusal}
use Rattle.pt_base.specs.declared.rules.Refusal.TheVariants.{Broken, Memory}
use Rattle.pc_grammar.specs.declared.tokens.Token.{Token}
use Rattle.pc_grammar.specs.declared.programs.Item.{Item}
use Rattle.pc_grammar.specs.Refusing.{IsRefused}
use Rattle.pc_grammar.specs.Items.{SpellsItem}

-- items in order
pub data IsProgram (source : List ℕ) : List Token → List Item → Type 0 where
  none : IsProgram source [] []
  more : {w v : List Token} {i : Item} {rest : List Item} → SpellsItem source w i → IsProgram source v rest → IsProgram source (w ++ v) (i ∷ rest)

-- no list of tokens spells two programs
abbrev pub OneProgram : Type 0
OneProgram = (source : List ℕ) (ts : List Token) (a b : List Item) → IsProgram source ts a → IsProgram source ts b → a ≡ b

-- the span of the first of the tokens, or the end of the text
abbrev pub span_at : ℕ → List Token → Span
span_at length [] = end_of length
span_at length (t ∷ ts) = t.span

-- S1 is broken at the refused token, or at the end
pub record IsBroken (source : List ℕ) (ts : List Token) (length : ℕ) (rule : Rule) (span : Span) : Type 0 where
  pub is : rule ≡ S1
  pub left : ℕ
  pub refused : IsRefused (IsProgram source) ts left
  pub place : span ≡ span_at length refused.rest

abbrev pub RefusedIn : List ℕ → List Token → ℕ → Refusal → Type 0
RefusedIn source ts length (Broken rule span) = IsBroken source ts length rule span
RefusedIn source ts length Memory = Unit {0}
