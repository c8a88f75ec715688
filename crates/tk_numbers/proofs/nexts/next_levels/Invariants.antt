use Rattle.std.proofs.Common.{◌≡◌}
use Rattle.tk_paths.specs.Levels.{numbers_of, levels_to}
use Rattle.tk_numbers.specs.Nexts.{nexts}
use Rattle.tk_numbers.proofs.nexts.next_levels.Given as goal

abbrev pub invariant-loop-k : goal.invariant-loop-k
invariant-loop-k l = l.levels.items ≡ levels_to (nexts l.next l.out l.weight (numbers_of l.behind)) l.k
