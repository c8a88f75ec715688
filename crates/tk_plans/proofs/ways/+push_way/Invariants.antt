use Rattle.std.proofs.Common.{◌≡◌, ◌++◌, drop, map}
use Rattle.tk_paths.specs.Regions.{dearest_way}
use Rattle.tk_paths.specs.Trees.{regions_from, read_region}
use Rattle.tk_numbers.specs.Charges.{routines_in}
use Rattle.tk_plans.proofs.ways.+push_way.Given as goal

abbrev pub invariant-loop-part : goal.invariant-loop-part
invariant-loop-part l =
    l.choices.items ++ dearest_way l.image l.costs (regions_from 0 (map (read_region (routines_in l.before)) (drop l.part-index l.parts)))
    ≡ l.initial.choices.items ++ dearest_way l.image l.costs (regions_from 0 (map (read_region (routines_in l.before)) l.parts))
