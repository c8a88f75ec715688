use Rattle.std.proofs.Common.{◌≡◌}
use Rattle.tk_paths.specs.Numbers.{rested}
use Rattle.tk_paths.specs.Levels.{levels_to}
use Rattle.tk_threads.proofs.rests.rested.Given as goal

abbrev pub invariant-loop-k : goal.invariant-loop-k
invariant-loop-k l = l.levels.items ≡ levels_to (rested l.image l.costs l.aborts) l.k
