use Rattle.std.proofs.Common.{◌≡◌, ◌≤◌, ◌++◌, drop, length, map}
use Rattle.tk_paths.specs.Regions.{through}
use Rattle.tk_paths.specs.Numbers.{region_lines, region_weights}
use Rattle.tk_paths.specs.Trees.{regions_from, read_region}
use Rattle.tk_numbers.specs.Charges.{routines_in}
use Rattle.tk_paths.specs.PlaceKinds.{kind_of}
use Rattle.tk_paths.specs.Levels.{numbers_of}
use Rattle.tk_numbers.proofs.writing.+lines.Given as goal

abbrev pub invariant-parts_lines-loop-i : goal.invariant-parts_lines-loop-i
invariant-parts_lines-loop-i l = record {
  within : l.i ≤ length l.parts;
  exact : l.total ≡ through l.image l.costs (regions_from 0 (map (read_region (routines_in l.before)) (drop l.i l.parts)));
  lines : l.made.lines ≡ region_lines l.image l.costs (kind_of l.kind) (regions_from 0 (map (read_region (routines_in l.before)) (drop l.i l.parts))) (numbers_of l.behind) ++ l.initial.made.lines;
  weights : l.made.weights ≡ region_weights l.image l.costs (regions_from 0 (map (read_region (routines_in l.before)) (drop l.i l.parts))) ++ l.initial.made.weights;
}

abbrev pub decreases-parts_lines-loop-i : goal.decreases-parts_lines-loop-i
decreases-parts_lines-loop-i l = l.i
