use Rattle.std.proofs.Common.{◌≡◌, drop}
use Rattle.tk_paths.specs.Shape.{weight_in}
use Rattle.tk_shape.proofs.index.weight_from.Given as goal

abbrev pub invariant-loop-at : goal.invariant-loop-at
invariant-loop-at l = weight_in (drop l.at-index l.weights) l.place ≡ weight_in l.weights l.place
