use Rattle.std.proofs.Common.{◌≡◌, ◌≤◌, ◌++◌, drop, length}
use Rattle.tk_paths.specs.PlaceKinds.{kind_of}
use Rattle.tk_paths.specs.Levels.{numbers_of}
use Rattle.tk_numbers.specs.Units.{charged, lines_at}
use Rattle.tk_numbers.proofs.units.lines_at.Given as goal

abbrev pub invariant-loop-i : goal.invariant-loop-i
invariant-loop-i l = record {
  within : l.i ≤ length l.places;
  charge : l.total ≡ charged l.image l.costs (drop l.i l.places);
  lines : l.made.lines ≡ lines_at l.image l.costs (kind_of l.kind) (drop l.i l.places) (numbers_of l.levels) ++ l.initial.made.lines;
  weights : l.made.weights ≡ l.initial.made.weights;
}

abbrev pub decreases-loop-i : goal.decreases-loop-i
decreases-loop-i l = l.i
