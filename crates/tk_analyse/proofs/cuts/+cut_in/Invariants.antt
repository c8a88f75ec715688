use Rattle.std.proofs.Common.{length}
use Rattle.tk_analyse.proofs.cuts.+cut_in.Given as goal

abbrev pub decreases-cut_in : goal.decreases-cut_in
decreases-cut_in l = length l.stack.now
