use Rattle.std.proofs.Common.{length}
use Rattle.tk_judge.proofs.handlers.+pause_handlers.Given as goal

abbrev pub decreases-pause_handlers : goal.decreases-pause_handlers
decreases-pause_handlers l = length l.stack.now
