use Rattle.tk_shape.proofs.Marking.{more_range}
use Rattle.tk_shape.proofs.asked.mark_starts.Goals as goal

pub loop-number-preserved : goal.loop-number-preserved
loop-number-preserved c = more_range _ _ _ _ c.args.lo c.loop-number.number c.loop-number.invariant c.mark_start.ensures
