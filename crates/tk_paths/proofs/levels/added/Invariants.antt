use Rattle.std.proofs.Common.{◌≡◌}
use Rattle.tk_paths.specs.Levels.{numbers_of, levels_to, added}
use Rattle.tk_paths.proofs.levels.added.Given as goal

abbrev pub invariant-loop-k : goal.invariant-loop-k
invariant-loop-k l = l.levels.items ≡ levels_to (added l.cycles (numbers_of l.behind)) l.k
