use Rattle.std.proofs.Common.{length}
use Rattle.tk_paths.proofs.resuming.+tested_by.Given as goal

abbrev pub decreases-tested_by : goal.decreases-tested_by
decreases-tested_by l = length l.stack.now
