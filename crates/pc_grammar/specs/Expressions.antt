-- Which tokens spell which expression: docs/language.md, "Expressions".
use Rattle.std.specs.Prelude.{◌≡◌, ℕ, suc, List, [], ◌∷◌, ◌++◌, Some, slice_range}
use Rattle.pt_base.specs.declared.limits.TheConstants.{MOST_EXPRESSION_LEVELS}
use Rattle.pc_grammar.specs.declared.marks.TheConstants.{LEVELS}
use Rattle.pt_base.specs.declared.operators.UnOp.{UnOp}
use Rattle.pt_base.specs.declared.operators.BinOp.{BinOp}
use Rattle.pc_grammar.specs.declared.tokens.Sort.TheVariants.{Number as NumberSort, Name as NameSort}
use Rattle.pc_grammar.specs.declared.tokens.Token.{Token}
use Rattle.pc_grammar.specs.declared.expressions.Word.{Word}
use Rattle.pc_grammar.specs.declared.expressions.Expr.{Expr}
use Rattle.pc_grammar.specs.declared.expressions.Expr.TheVariants.{Number, Var, Elem, Unary, Chain}
use Rattle.pc_grammar.specs.declared.marks.Pair.{Pair}
use Rattle.pc_grammar.specs.declared.marks.Pair.TheVariants.{Parentheses, Brackets}
use Rattle.pc_grammar.specs.Signs.{unary_in, binary_in, level_of, opens_of, closes_of}

-- the name that a token is
abbrev pub word_at : List ℕ → Token → Word
word_at source t = record { text = slice_range source t.span.from t.span.to; span = t.span }

-- one operand alone is its own tree
abbrev pub grown : Expr Word → List (BinOp × Expr Word) → Expr Word
grown head [] = head
grown head (more ∷ rest) = Chain head (more ∷ rest)

-- `room` is how many levels of nesting are left
mutual
  pub data SpellsOperand : List ℕ → ℕ → List Token → Expr Word → Type 0 where
    number : {source : List ℕ} {room n : ℕ} (t : Token) → t.sort ≡ NumberSort n → SpellsOperand source room (t ∷ []) (Number n)
    name : {source : List ℕ} {room : ℕ} (t : Token) → t.sort ≡ NameSort → SpellsOperand source room (t ∷ []) (Var (word_at source t))
    element : {source : List ℕ} {room : ℕ} {w : List Token} {index : Expr Word} (t : Token) → t.sort ≡ NameSort →
        SpellsBetween source room Brackets w index → SpellsOperand source (suc room) (t ∷ w) (Elem (word_at source t) index)
    unary : {source : List ℕ} {room : ℕ} {w : List Token} {e : Expr Word} (t : Token) (op : UnOp) → unary_in t.sort ≡ Some op →
        SpellsOperand source room w e → SpellsOperand source (suc room) (t ∷ w) (Unary op e)
    inside : {source : List ℕ} {room : ℕ} {w : List Token} {e : Expr Word} →
        SpellsBetween source room Parentheses w e → SpellsOperand source (suc room) w e

  -- an expression between two tokens
  pub data SpellsBetween : List ℕ → ℕ → Pair → List Token → Expr Word → Type 0 where
    between : {source : List ℕ} {room : ℕ} {pair : Pair} {w : List Token} {e : Expr Word} (a b : Token) →
        a.sort ≡ opens_of pair → b.sort ≡ closes_of pair → SpellsLevel source room LEVELS w e → SpellsBetween source room pair (a ∷ (w ++ b ∷ [])) e

  -- level 0 is an operand; at a level above, operands of the level below with its operators between them
  pub data SpellsLevel : List ℕ → ℕ → ℕ → List Token → Expr Word → Type 0 where
    operand : {source : List ℕ} {room : ℕ} {w : List Token} {e : Expr Word} → SpellsOperand source room w e → SpellsLevel source room 0 w e
    chain : {source : List ℕ} {room level : ℕ} {w v : List Token} {head : Expr Word} {rest : List (BinOp × Expr Word)} →
        SpellsLevel source room level w head → SpellsRest source room level v rest → SpellsLevel source room (suc level) (w ++ v) (grown head rest)

  -- operators of the level above `level`, each with an operand of `level`
  pub data SpellsRest : List ℕ → ℕ → ℕ → List Token → List (BinOp × Expr Word) → Type 0 where
    none : {source : List ℕ} {room level : ℕ} → SpellsRest source room level [] []
    more : {source : List ℕ} {room level : ℕ} {w v : List Token} {e : Expr Word} {rest : List (BinOp × Expr Word)} (t : Token) (op : BinOp) →
        binary_in t.sort ≡ Some op → level_of op ≡ suc level → SpellsLevel source room level w e → SpellsRest source room level v rest →
        SpellsRest source room level (t ∷ (w ++ v)) ((op, e) ∷ rest)

abbrev pub IsExpression : List ℕ → List Token → Expr Word → Type 0
IsExpression source = SpellsLevel source MOST_EXPRESSION_LEVELS LEVELS

-- no list of tokens spells two trees
abbrev pub OneTree : Type 0
OneTree = (source : List ℕ) (ts : List Token) (a b : Expr Word) → IsExpression source ts a → IsExpression source ts b → a ≡ b
