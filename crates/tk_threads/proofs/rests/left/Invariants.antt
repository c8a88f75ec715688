use Rattle.std.proofs.Common.{◌≡◌}
use Rattle.tk_paths.specs.Numbers.{left}
use Rattle.tk_paths.specs.Levels.{numbers_of, levels_to}
use Rattle.tk_threads.proofs.rests.left.Given as goal

abbrev pub invariant-loop-k : goal.invariant-loop-k
invariant-loop-k l = l.levels.items ≡ levels_to (left l.image l.costs l.aborts (numbers_of l.behind)) l.k
