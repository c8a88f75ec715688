use Rattle.std.proofs.Common.{◌≡◌, ◌+◌, min, sum_by, take}
use Rattle.pc_rules.specs.Weights.{value_weight}
use Rattle.pc_rules.proofs.frames.locals.Given as goal

abbrev pub invariant-loop-e : goal.invariant-loop-e
invariant-loop-e l = l.total ≡ min 2000001 (sum_by (λ p. 4 + value_weight p.1) (take l.e-index l.all))
