use Rattle.std.proofs.Common.{◌≡◌, ◌++◌, drop, map}
use Rattle.tk_paths.specs.Choices.{pieces}
use Rattle.tk_paths.specs.Trees.{regions_from, read_region}
use Rattle.tk_numbers.specs.Charges.{routines_in}
use Rattle.tk_plans.specs.Ways.{crossing}
use Rattle.tk_plans.proofs.pieces.+region_pieces.Given as goal

abbrev pub invariant-loop-part : goal.invariant-loop-part
invariant-loop-part l =
    l.pieces.items ++ map (crossing l.image l.costs) (pieces (regions_from 0 (map (read_region (routines_in l.before)) (drop l.part-index l.parts))))
    ≡ l.initial.pieces.items ++ map (crossing l.image l.costs) (pieces (regions_from 0 (map (read_region (routines_in l.before)) l.parts)))
