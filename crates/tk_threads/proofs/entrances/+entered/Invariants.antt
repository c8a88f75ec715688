use Rattle.std.proofs.Common.{◌≡◌, ◌≤◌, drop, length, map}
use Rattle.tk_paths.specs.Programs.{pair_from}
use Rattle.tk_paths.specs.Trees.{read_code}
use Rattle.tk_numbers.specs.Charges.{routines_in}
use Rattle.tk_paths.specs.Levels.{numbers_of}
use Rattle.tk_threads.specs.Codes.{entered_all}
use Rattle.tk_threads.proofs.entrances.+entered.Given as goal

abbrev pub invariant-loop-rest : goal.invariant-loop-rest
invariant-loop-rest l = record {
  within : l.rest ≤ length l.codes;
  numbers : numbers_of l.levels
      ≡ entered_all l.image l.costs (pair_from l.first l.starts) l.aborts (map (read_code (routines_in l.before)) (drop l.rest l.codes)) (numbers_of l.behind);
}

abbrev pub decreases-loop-rest : goal.decreases-loop-rest
decreases-loop-rest l = l.rest
