-- What each function answers that reads expressions.
use Rattle.std.specs.Prelude.{◌≡◌, ℕ, suc, ◌<◌, List, ◌∷◌, Option, Some, None}
use Rattle.pt_base.specs.declared.operators.BinOp.{BinOp}
use Rattle.pc_grammar.specs.declared.tokens.Sort.{Sort}
use Rattle.pc_grammar.specs.declared.tokens.Token.{Token}
use Rattle.pc_grammar.specs.declared.expressions.Word.{Word}
use Rattle.pc_grammar.specs.declared.expressions.Expr.{Expr}
use Rattle.pc_grammar.specs.declared.marks.Pair.{Pair}
use Rattle.pc_grammar.specs.Signs.{binary_in, level_of, hold_of}
use Rattle.pc_grammar.specs.Refusing.{first}
use Rattle.pc_parse.specs.Reading.{Takes, Fails, Always}
use Rattle.pc_grammar.specs.Expressions.{SpellsBetween, SpellsLevel, SpellsOperand, SpellsRest}

abbrev pub hold_in : Option Sort → Option ℕ
hold_in None = None
hold_in (Some s) = hold_of s

-- nothing comes next that goes on with an expression of the level
abbrev pub Ends : ℕ → List Token → Type 0
Ends level ts = (n : ℕ) → hold_in (first ts) ≡ Some n → level < n

abbrev pub OperandTakes : List ℕ → ℕ → List Token → Expr Word → List Token → Type 0
OperandTakes source room = Takes (SpellsOperand source room) (λ _. Ends 0)

abbrev pub OperandFails : List ℕ → ℕ → List Token → ℕ → Type 0
OperandFails source room = Fails (SpellsOperand source room) (λ _. Ends 0)

abbrev pub BetweenTakes : List ℕ → ℕ → Pair → List Token → Expr Word → List Token → Type 0
BetweenTakes source room pair = Takes (SpellsBetween source room pair) Always

abbrev pub BetweenFails : List ℕ → ℕ → Pair → List Token → ℕ → Type 0
BetweenFails source room pair = Fails (SpellsBetween source room pair) Always

abbrev pub LevelTakes : List ℕ → ℕ → ℕ → List Token → Expr Word → List Token → Type 0
LevelTakes source room level = Takes (SpellsLevel source room level) (λ _. Ends level)

abbrev pub LevelFails : List ℕ → ℕ → ℕ → List Token → ℕ → Type 0
LevelFails source room level = Fails (SpellsLevel source room level) (λ _. Ends level)

abbrev pub RestTakes : List ℕ → ℕ → ℕ → List Token → List (BinOp × Expr Word) → List Token → Type 0
RestTakes source room level = Takes (SpellsRest source room level) (λ _. Ends (suc level))

abbrev pub RestFails : List ℕ → ℕ → ℕ → List Token → ℕ → Type 0
RestFails source room level = Fails (SpellsRest source room level) (λ _. Ends (suc level))

-- an operator of the level comes next
pub record ComesNext (level : ℕ) (ts : List Token) (op : BinOp) (after : List Token) : Type 0 where
  pub token : Token
  pub whole : ts ≡ token ∷ after
  pub is : binary_in token.sort ≡ Some op
  pub at : level_of op ≡ level

-- none does
pub record NoneNext (level : ℕ) (ts : List Token) : Type 0 where
  pub none : hold_in (first ts) ≡ Some level → ⊥
