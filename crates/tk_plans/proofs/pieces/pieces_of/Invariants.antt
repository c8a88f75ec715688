use Rattle.std.proofs.Common.{◌≡◌, ◌++◌, [], drop, take, map, flat_map}
use Rattle.tk_paths.specs.Regions.{dearest_way}
use Rattle.tk_paths.specs.Choices.{section_pieces}
use Rattle.tk_paths.specs.Trees.{read_sections}
use Rattle.tk_numbers.specs.Charges.{routines_in}
use Rattle.tk_plans.specs.Ways.{crossing}
use Rattle.tk_plans.proofs.pieces.pieces_of.Given as goal

abbrev pub invariant-loop-i : goal.invariant-loop-i
invariant-loop-i l = record {
  ways : l.ways.items ≡ map (dearest_way l.image l.costs) (routines_in (take l.i l.sections));
  pieces : l.pieces.items ++ map (crossing l.image l.costs) (flat_map section_pieces (read_sections (routines_in (take l.i l.sections)) (drop l.i l.sections)))
      ≡ map (crossing l.image l.costs) (flat_map section_pieces (read_sections [] l.sections));
}
