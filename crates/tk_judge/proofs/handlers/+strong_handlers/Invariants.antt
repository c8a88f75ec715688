use Rattle.std.proofs.Common.{length}
use Rattle.tk_judge.proofs.handlers.+strong_handlers.Given as goal

abbrev pub decreases-strong_handlers : goal.decreases-strong_handlers
decreases-strong_handlers l = length l.stack.now
