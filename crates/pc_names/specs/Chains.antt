-- Lists of operands and of statements with numbers for names.
use Rattle.std.specs.Prelude.{ℕ, List, map}
use Rattle.pt_base.specs.declared.operators.BinOp.{BinOp}
use Rattle.pc_grammar.specs.declared.expressions.Word.{Word}
use Rattle.pc_grammar.specs.declared.expressions.Expr.{Expr}
use Rattle.pc_grammar.specs.declared.statements.Stmt.{Stmt}
use Rattle.pc_grammar.specs.Typing.{numbered, numbered_statement}

abbrev pub numbered_operands : (Word → ℕ) → List (BinOp × Expr Word) → List (BinOp × Expr ℕ)
numbered_operands cell rest = map (λ p. (p.0, numbered cell p.1)) rest

abbrev pub numbered_statements : (Word → ℕ) → (Word → ℕ) → List (Stmt Word) → List (Stmt ℕ)
numbered_statements cell function all = map (numbered_statement cell function) all
