use Rattle.std.proofs.Common.{◌≡◌, ◌≤◌, flat_map, length, take, drop}
use Rattle.tk_paths.specs.Programs.{pair_from}
use Rattle.tk_paths.specs.Trees.{read_sections}
use Rattle.tk_numbers.specs.Charges.{routines_in}
use Rattle.tk_threads.specs.Sections.{lines_of, weights_of}
use Rattle.tk_threads.proofs.sections.made_of.Given as goal

abbrev pub decreases-loop-i : goal.decreases-loop-i
decreases-loop-i l = l.i

abbrev pub invariant-loop-i : goal.invariant-loop-i
invariant-loop-i l = record {
  within : l.i ≤ length l.sections;
  lines : l.made.lines ≡ flat_map (lines_of l.image l.costs (pair_from 0 l.starts)) (read_sections (routines_in (take l.i l.sections)) (drop l.i l.sections));
  weights : l.made.weights ≡ flat_map (weights_of l.image l.costs) (read_sections (routines_in (take l.i l.sections)) (drop l.i l.sections));
}
