-- Which tokens spell which statement: docs/language.md, "Statements".
use Rattle.std.specs.Prelude.{◌≡◌, ℕ, suc, Bool, true, false, List, [], ◌∷◌, ◌++◌, Option, Some, None}
use Rattle.pt_base.specs.declared.limits.TheConstants.{MOST_EXPRESSION_LEVELS, MOST_STATEMENT_LEVELS}
use Rattle.pc_grammar.specs.declared.tokens.Sort.TheVariants.{IfWord, ElseWord, WhileWord, AbortWord, WeakWord, OpenBrace, CloseBrace}
use Rattle.pc_grammar.specs.declared.tokens.Token.{Token}
use Rattle.pc_grammar.specs.declared.expressions.Word.{Word}
use Rattle.pc_grammar.specs.declared.expressions.Expr.{Expr}
use Rattle.pc_grammar.specs.declared.statements.Stmt.{Stmt}
use Rattle.pc_grammar.specs.declared.statements.Stmt.TheVariants.{Block, If, While, Abort}
use Rattle.pc_grammar.specs.declared.marks.Pair.TheVariants.{Parentheses}
use Rattle.pc_grammar.specs.Expressions.{SpellsBetween}
use Rattle.pc_grammar.specs.Settings.{SpellsLoop, SpellsTest}
use Rattle.pc_grammar.specs.Simple.{SpellsSimple}

-- `room` is how many levels of statements may stand below; the Bool says whether the statement is open
mutual
  pub data SpellsStmt : List ℕ → ℕ → Bool → List Token → Stmt Word → Type 0 where
    simple : {source : List ℕ} {room : ℕ} {w : List Token} {s : Stmt Word} → SpellsSimple source w s → SpellsStmt source room false w s
    block : {source : List ℕ} {room : ℕ} {w : List Token} {all : List (Stmt Word)} (a b : Token) → a.sort ≡ OpenBrace → b.sort ≡ CloseBrace →
        SpellsParts source room w all → SpellsStmt source room false (a ∷ (w ++ b ∷ [])) (Block all)
    if_open : {source : List ℕ} {room : ℕ} {dangling : Bool} {w v : List Token} {test : Expr Word} {yes : Stmt Word} (t : Token) → t.sort ≡ IfWord →
        SpellsBetween source MOST_EXPRESSION_LEVELS Parentheses w test → SpellsStmt source room dangling v yes →
        SpellsStmt source (suc room) true (t ∷ (w ++ v)) (If test yes None)
    -- before an `else` stands a closed statement
    if_else : {source : List ℕ} {room : ℕ} {dangling : Bool} {w v u : List Token} {test : Expr Word} {yes other : Stmt Word} (t x : Token) → t.sort ≡ IfWord → x.sort ≡ ElseWord →
        SpellsBetween source MOST_EXPRESSION_LEVELS Parentheses w test → SpellsStmt source room false v yes → SpellsStmt source room dangling u other →
        SpellsStmt source (suc room) dangling (t ∷ (w ++ (v ++ x ∷ u))) (If test yes (Some other))
    while : {source : List ℕ} {room : ℕ} {dangling : Bool} {w v : List Token} {p : Expr Word × Option ℕ} {body : Stmt Word} (t : Token) → t.sort ≡ WhileWord →
        SpellsLoop source w p → SpellsStmt source room dangling v body →
        SpellsStmt source (suc room) dangling (t ∷ (w ++ v)) (While t.span p.0 p.1 body)
    abort : {source : List ℕ} {room : ℕ} {w : List Token} {q : Stmt Word × Expr Word} (t : Token) → t.sort ≡ AbortWord →
        SpellsAborted source room w q → SpellsStmt source (suc room) false (t ∷ w) (Abort t.span false q.0 q.1)
    weak_abort : {source : List ℕ} {room : ℕ} {w : List Token} {q : Stmt Word × Expr Word} (t a : Token) → t.sort ≡ WeakWord → a.sort ≡ AbortWord →
        SpellsAborted source room w q → SpellsStmt source (suc room) false (t ∷ a ∷ w) (Abort t.span true q.0 q.1)

  -- the body of an abort and its condition
  pub data SpellsAborted : List ℕ → ℕ → List Token → Stmt Word × Expr Word → Type 0 where
    aborted : {source : List ℕ} {room : ℕ} {dangling : Bool} {w v : List Token} {body : Stmt Word} {test : Expr Word} →
        SpellsStmt source room dangling w body → SpellsTest source v test → SpellsAborted source room (w ++ v) (body, test)

  -- statements one level below
  pub data SpellsParts : List ℕ → ℕ → List Token → List (Stmt Word) → Type 0 where
    none : {source : List ℕ} {room : ℕ} → SpellsParts source room [] []
    more : {source : List ℕ} {room : ℕ} {dangling : Bool} {w v : List Token} {s : Stmt Word} {all : List (Stmt Word)} →
        SpellsStmt source room dangling w s → SpellsParts source (suc room) v all → SpellsParts source (suc room) (w ++ v) (s ∷ all)

-- a function's statements stand at level 1
abbrev pub IsBody : List ℕ → List Token → List (Stmt Word) → Type 0
IsBody source = SpellsParts source MOST_STATEMENT_LEVELS

abbrev pub OneBody : Type 0
OneBody = (source : List ℕ) (ts : List Token) (a b : List (Stmt Word)) → IsBody source ts a → IsBody source ts b → a ≡ b
