use Rattle.std.proofs.Common.{◌≡◌}
use Rattle.tk_paths.specs.Levels.{numbers_of, levels_to}
use Rattle.tk_paths.proofs.levels.first_levels.Given as goal

abbrev pub invariant-loop-k : goal.invariant-loop-k
invariant-loop-k l = l.all.items ≡ levels_to (numbers_of l.levels) l.k
