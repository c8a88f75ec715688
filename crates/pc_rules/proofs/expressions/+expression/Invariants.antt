use Rattle.std.proofs.Common.{◌≡◌, ◌+◌, min, sum_by, take}
use Rattle.pc_rules.specs.Weights.{expression_weight}
use Rattle.pc_rules.proofs.expressions.+expression.Given as goal

abbrev pub invariant-operands-loop-e : goal.invariant-operands-loop-e
invariant-operands-loop-e l = l.total ≡ min 2000001 (sum_by (λ p. 16 + expression_weight p.1) (take l.e-index l.rest))
