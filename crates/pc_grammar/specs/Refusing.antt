-- Where a list of tokens is refused, for any relation X of lists of tokens and trees: docs/language.md, "Refused programs".
use Rattle.std.specs.Prelude.{◌≡◌, ℕ, List, [], ◌∷◌, ◌++◌, Option, Some, None, length}
use Rattle.pc_grammar.specs.declared.tokens.Sort.{Sort}
use Rattle.pc_grammar.specs.declared.tokens.Token.{Token}

-- what comes next
abbrev pub first : List Token → Option Sort
first [] = None
first (t ∷ ts) = Some t.sort

-- some continuation of the tokens spells a tree
abbrev pub IsViable : {A : Type 0} → (List Token → A → Type 0) → List Token → Type 0
IsViable {A} X ts = (more : List Token) × (a : A) × X (ts ++ more) a

-- the first `left` tokens from the end on are refused: those before them are viable, with the next one they aren't,
-- and where none is left, all are viable and spell nothing
pub record IsRefused {A : Type 0} (X : List Token → A → Type 0) (ts : List Token) (left : ℕ) : Type 0 where
  pub before : List Token
  pub rest : List Token
  pub whole : ts ≡ before ++ rest
  pub count : length rest ≡ left
  pub viable : IsViable X before
  pub here : (t : Token) (more : List Token) → rest ≡ t ∷ more → IsViable X (before ++ t ∷ []) → ⊥
  pub none : (a : A) → X ts a → ⊥
