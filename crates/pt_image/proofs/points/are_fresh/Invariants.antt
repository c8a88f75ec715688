use Rattle.std.proofs.Common.{◌≡◌, drop}
use Rattle.pt_image.specs.Reading.{fresh}
use Rattle.pt_image.proofs.points.are_fresh.Given as goal

abbrev pub invariant-loop-point : goal.invariant-loop-point
invariant-loop-point l = fresh l.seen (drop l.point-index l.points) ≡ fresh l.fn.seen l.points
