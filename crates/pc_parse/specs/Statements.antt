-- What each function answers that reads statements.
use Rattle.std.specs.Prelude.{◌≡◌, ℕ, Bool, true, List, Option, Some, None}
use Rattle.pc_grammar.specs.declared.tokens.Sort.{Sort}
use Rattle.pc_grammar.specs.declared.tokens.Sort.TheVariants.{ElseWord, ReturnWord, CloseBrace}
use Rattle.pc_grammar.specs.declared.tokens.Token.{Token}
use Rattle.pc_grammar.specs.declared.expressions.Word.{Word}
use Rattle.pc_grammar.specs.declared.expressions.Expr.{Expr}
use Rattle.pc_grammar.specs.declared.statements.Stmt.{Stmt}
use Rattle.pc_grammar.specs.Refusing.{first}
use Rattle.pc_parse.specs.Reading.{Takes, Fails, Always}
use Rattle.pc_grammar.specs.Statements.{SpellsAborted, SpellsParts, SpellsStmt}

-- a statement with whether it is open
abbrev pub Spells : List ℕ → ℕ → List Token → Bool × Stmt Word → Type 0
Spells source room w p = SpellsStmt source room p.0 w p.1

-- an open statement goes on with an `else`
abbrev pub NoElse : Bool × Stmt Word → List Token → Type 0
NoElse p ts = p.0 ≡ true → first ts ≡ Some ElseWord → ⊥

-- statements end at a closing brace, at a `return`, or at the end
pub data Closes : Option Sort → Type 0 where
  at_end : Closes None
  at_brace : Closes (Some CloseBrace)
  at_return : Closes (Some ReturnWord)

abbrev pub AtClose : List (Stmt Word) → List Token → Type 0
AtClose all ts = Closes (first ts)

abbrev pub StmtTakes : List ℕ → ℕ → List Token → Bool × Stmt Word → List Token → Type 0
StmtTakes source room = Takes (Spells source room) NoElse

abbrev pub StmtFails : List ℕ → ℕ → List Token → ℕ → Type 0
StmtFails source room = Fails (Spells source room) NoElse

-- a statement, open or closed
pub record SomeTakes (source : List ℕ) (room : ℕ) (ts : List Token) (s : Stmt Word) (rest : List Token) : Type 0 where
  pub dangling : Bool
  pub takes : StmtTakes source room ts (dangling, s) rest

abbrev pub AbortedTakes : List ℕ → ℕ → List Token → Stmt Word × Expr Word → List Token → Type 0
AbortedTakes source room = Takes (SpellsAborted source room) Always

abbrev pub AbortedFails : List ℕ → ℕ → List Token → ℕ → Type 0
AbortedFails source room = Fails (SpellsAborted source room) Always

abbrev pub PartsTakes : List ℕ → ℕ → List Token → List (Stmt Word) → List Token → Type 0
PartsTakes source room = Takes (SpellsParts source room) AtClose

abbrev pub PartsFails : List ℕ → ℕ → List Token → ℕ → Type 0
PartsFails source room = Fails (SpellsParts source room) AtClose
