use Rattle.std.proofs.Common.{length}
use Rattle.tk_judge.proofs.handlers.+conditions.Given as goal

abbrev pub decreases-conditions : goal.decreases-conditions
decreases-conditions l = length l.stack.now
