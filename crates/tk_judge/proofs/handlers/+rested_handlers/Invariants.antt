use Rattle.std.proofs.Common.{length}
use Rattle.tk_judge.proofs.handlers.+rested_handlers.Given as goal

abbrev pub decreases-rested_handlers : goal.decreases-rested_handlers
decreases-rested_handlers l = length l.stack.now
