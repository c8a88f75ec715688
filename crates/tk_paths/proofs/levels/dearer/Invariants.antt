use Rattle.std.proofs.Common.{◌≡◌}
use Rattle.tk_paths.specs.Levels.{numbers_of, levels_to, dearer}
use Rattle.tk_paths.proofs.levels.dearer.Given as goal

abbrev pub invariant-loop-k : goal.invariant-loop-k
invariant-loop-k l = l.levels.items ≡ levels_to (dearer (numbers_of l.first) (numbers_of l.second)) l.k
