-- The names of trees, constructor by constructor.
use Rattle.std.proofs.Common.{◌≡◌, List, ◌++◌, Some, sym, ap, ◌∙◌}
use Rattle.pt_base.specs.declared.operators.BinOp.{BinOp}
use Rattle.pc_grammar.specs.declared.expressions.Word.{Word}
use Rattle.pc_grammar.specs.declared.expressions.Expr.{Expr, fold-roll-Expr}
use Rattle.pc_grammar.specs.declared.expressions.Expr.TheVariants.{Chain, rolls-Chain}
use Rattle.pc_grammar.specs.declared.expressions.Expr.TheOpen.{Chain as OpenChain}
use Rattle.pc_grammar.specs.declared.statements.Stmt.{Stmt, fold-roll-Stmt}
use Rattle.pc_grammar.specs.declared.statements.Stmt.TheVariants.{Block, If, rolls-Block, rolls-If}
use Rattle.pc_grammar.specs.declared.statements.Stmt.TheOpen.{Block as OpenBlock, If as OpenIf}
use Rattle.pc_grammar.specs.Uses.{Use, expression_step, expression_uses, statement_step, statement_uses, statements_uses}
use Rattle.pc_names.specs.Rest.{chain_uses}

pub chain : (first : Expr Word) (rest : List (BinOp × Expr Word)) → expression_uses (Chain first rest) ≡ expression_uses first ++ chain_uses rest
chain first rest = ap expression_uses (sym (rolls-Chain first rest)) ∙ fold-roll-Expr Word (List (Use Word)) expression_step (OpenChain first rest)

pub ruleset chains = (chain)

pub block : (all : List (Stmt Word)) → statement_uses (Block all) ≡ statements_uses all
block all = ap statement_uses (sym (rolls-Block all)) ∙ fold-roll-Stmt Word (List (Use Word)) statement_step (OpenBlock all)

pub if_else : (test : Expr Word) (first second : Stmt Word) → statement_uses (If test first (Some second)) ≡ expression_uses test ++ (statement_uses first ++ statement_uses second)
if_else test first second = ap statement_uses (sym (rolls-If test first (Some second))) ∙ fold-roll-Stmt Word (List (Use Word)) statement_step (OpenIf test first (Some second))

pub ruleset walks = (block, if_else)
