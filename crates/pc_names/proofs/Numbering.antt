-- Trees with numbers for names, constructor by constructor.
use Rattle.std.proofs.Common.{◌≡◌, ℕ, List, Some, sym, ap, ◌∙◌}
use Rattle.pt_base.specs.declared.operators.BinOp.{BinOp}
use Rattle.pc_grammar.specs.declared.expressions.Word.{Word}
use Rattle.pc_grammar.specs.declared.expressions.Expr.{Expr, fold-roll-Expr}
use Rattle.pc_grammar.specs.declared.expressions.Expr.TheVariants.{Chain, rolls-Chain}
use Rattle.pc_grammar.specs.declared.expressions.Expr.TheOpen.{Chain as OpenChain}
use Rattle.pc_grammar.specs.declared.statements.Stmt.{Stmt, fold-roll-Stmt}
use Rattle.pc_grammar.specs.declared.statements.Stmt.TheVariants.{Block, If, rolls-Block, rolls-If}
use Rattle.pc_grammar.specs.declared.statements.Stmt.TheOpen.{Block as OpenBlock, If as OpenIf}
use Rattle.pc_grammar.specs.Typing.{numbered_step, numbered, numbered_statement_step, numbered_statement}
use Rattle.pc_names.specs.Chains.{numbered_operands, numbered_statements}

pub chain : (cell : Word → ℕ) (first : Expr Word) (rest : List (BinOp × Expr Word)) → numbered cell (Chain first rest) ≡ Chain (numbered cell first) (numbered_operands cell rest)
chain cell first rest = ap (numbered cell) (sym (rolls-Chain first rest)) ∙ fold-roll-Expr Word (Expr ℕ) (numbered_step cell) (OpenChain first rest)

pub ruleset chains = (chain)

pub block : (cell function : Word → ℕ) (all : List (Stmt Word)) → numbered_statement cell function (Block all) ≡ Block (numbered_statements cell function all)
block cell function all = ap (numbered_statement cell function) (sym (rolls-Block all)) ∙ fold-roll-Stmt Word (Stmt ℕ) (numbered_statement_step cell function) (OpenBlock all)

pub if_else : (cell function : Word → ℕ) (test : Expr Word) (first second : Stmt Word) → numbered_statement cell function (If test first (Some second)) ≡ If (numbered cell test) (numbered_statement cell function first) (Some (numbered_statement cell function second))
if_else cell function test first second = ap (numbered_statement cell function) (sym (rolls-If test first (Some second))) ∙ fold-roll-Stmt Word (Stmt ℕ) (numbered_statement_step cell function) (OpenIf test first (Some second))

pub ruleset statements = (block, if_else)
