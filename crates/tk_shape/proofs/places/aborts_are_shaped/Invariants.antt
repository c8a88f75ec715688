use Rattle.std.proofs.Common.{◌≡◌, [], take, drop}
use Rattle.tk_paths.specs.Shape.{aborts_are_shaped}
use Rattle.tk_shape.proofs.places.aborts_are_shaped.Given as goal

abbrev pub invariant-loop-depth : goal.invariant-loop-depth
invariant-loop-depth l = aborts_are_shaped l.image l.cert l.slot [] l.stack ≡ aborts_are_shaped l.image l.cert l.slot (take l.depth l.stack) (drop l.depth l.stack)
