-- A chain's weight is its operands'.
use Rattle.std.proofs.Common.{◌≡◌, ℕ, ◌+◌, List, [], ◌∷◌, sum_by, refl, arith}
use Rattle.std.proofs.lemmas.List.Sums.{sum_by-cons}
use Rattle.pt_base.specs.declared.operators.BinOp.{BinOp}
use Rattle.pc_grammar.specs.declared.expressions.Expr.{Expr, fold-roll-Expr}
use Rattle.pc_grammar.specs.declared.expressions.Expr.TheVariants.{Chain, rolls-Chain}
use Rattle.pc_grammar.specs.declared.expressions.Expr.TheOpen.{Chain as OpenChain}
use Rattle.pc_grammar.specs.declared.expressions.Expr.TheShapes.{former-Expr-Chain-1}
use Rattle.pc_rules.specs.Weights.{expression_step, expression_weight}

operands_sum : (rest : List (BinOp × Expr ℕ)) → sum_by (λ p. 16 + p.1) ((former-Expr-Chain-1 ℕ).map (Expr ℕ) ℕ expression_weight rest) ≡ sum_by (λ p. 16 + expression_weight p.1) rest
operands_sum [] = refl
operands_sum (p ∷ rest) = simp sum_by-cons (omega (arith, operands_sum rest))

pub weight-Chain : (first : Expr ℕ) (rest : List (BinOp × Expr ℕ)) → expression_weight (Chain first rest) ≡ expression_weight first + sum_by (λ p. 16 + expression_weight p.1) rest
weight-Chain first rest = rw (← rolls-Chain first rest) (omega (arith, fold-roll-Expr ℕ ℕ expression_step (OpenChain first rest), operands_sum rest))
