use Rattle.std.proofs.Common.{◌≡◌, take}
use Rattle.mb_core.proofs.loading.points.Given as goal

abbrev pub invariant-loop-point : goal.invariant-loop-point
invariant-loop-point l = l.copy.items ≡ take l.point-index l.points
