-- Which tokens spell lists with commas, of whatever X spells: docs/language.md, "Statements".
use Rattle.std.specs.Prelude.{◌≡◌, ℕ, List, [], ◌∷◌, ◌++◌}
use Rattle.pc_grammar.specs.declared.tokens.Sort.TheVariants.{Name, Comma, OpenParenthesis, CloseParenthesis}
use Rattle.pc_grammar.specs.declared.tokens.Token.{Token}
use Rattle.pc_grammar.specs.declared.expressions.Word.{Word}
use Rattle.pc_grammar.specs.declared.expressions.Expr.{Expr}
use Rattle.pc_grammar.specs.Expressions.{word_at, IsExpression}

-- more of a list, each behind a comma
pub data SpellsMore {A : Type 0} (X : List Token → A → Type 0) : List Token → List A → Type 0 where
  none : SpellsMore X [] []
  more : {w v : List Token} {a : A} {rest : List A} (t : Token) → t.sort ≡ Comma → X w a → SpellsMore X v rest → SpellsMore X (t ∷ (w ++ v)) (a ∷ rest)

-- one or more with commas between them
pub data SpellsList {A : Type 0} (X : List Token → A → Type 0) : List Token → List A → Type 0 where
  list : {w v : List Token} {a : A} {rest : List A} → X w a → SpellsMore X v rest → SpellsList X (w ++ v) (a ∷ rest)

-- the same in parentheses
pub data SpellsListed {A : Type 0} (X : List Token → A → Type 0) : List Token → List A → Type 0 where
  listed : {w : List Token} {all : List A} (a b : Token) → a.sort ≡ OpenParenthesis → b.sort ≡ CloseParenthesis → SpellsList X w all → SpellsListed X (a ∷ (w ++ b ∷ [])) all

-- the arguments of a call: none, or a list in parentheses
pub data SpellsArguments (source : List ℕ) : List Token → List (Expr Word) → Type 0 where
  no_arguments : (a b : Token) → a.sort ≡ OpenParenthesis → b.sort ≡ CloseParenthesis → SpellsArguments source (a ∷ b ∷ []) []
  some_arguments : {w : List Token} {all : List (Expr Word)} → SpellsListed (IsExpression source) w all → SpellsArguments source w all

pub data SpellsName (source : List ℕ) : List Token → Word → Type 0 where
  name : (t : Token) → t.sort ≡ Name → SpellsName source (t ∷ []) (word_at source t)
