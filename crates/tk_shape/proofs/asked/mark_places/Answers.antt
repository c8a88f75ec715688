use Rattle.tk_shape.proofs.Marking.{more_up}
use Rattle.tk_shape.proofs.asked.mark_places.Goals as goal

pub loop-place-preserved : goal.loop-place-preserved
loop-place-preserved c = more_up _ _ _ _ c.loop-place.place c.loop-place.invariant c.mark_place.ensures
