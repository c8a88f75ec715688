use Rattle.std.proofs.Common.{◌≡◌, ◌+◌, min, sum_by, take}
use Rattle.pc_rules.specs.Weights.{expression_weight}
use Rattle.pc_rules.proofs.expressions.arguments.Given as goal

abbrev pub invariant-loop-e : goal.invariant-loop-e
invariant-loop-e l = l.total ≡ min 2000001 (sum_by (λ e. 4 + expression_weight e) (take l.e-index l.all))
