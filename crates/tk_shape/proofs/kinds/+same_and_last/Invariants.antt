use Rattle.std.proofs.Common.{length}
use Rattle.tk_shape.proofs.kinds.+same_and_last.Given as goal

abbrev pub decreases-same_and_last : goal.decreases-same_and_last
decreases-same_and_last l = length l.a.now
