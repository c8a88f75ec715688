use Rattle.std.proofs.Common.{length}
use Rattle.tk_paths.proofs.resuming.+handlers.Given as goal

abbrev pub decreases-handlers : goal.decreases-handlers
decreases-handlers l = length l.stack.now
