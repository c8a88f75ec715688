use Rattle.std.proofs.Common.{◌≡◌, ◌+◌, drop, map}
use Rattle.tk_paths.specs.Regions.{through}
use Rattle.tk_paths.specs.Trees.{regions_from, read_region}
use Rattle.tk_numbers.specs.Charges.{routines_in}
use Rattle.tk_numbers.proofs.regions.+through.Given as goal

abbrev pub invariant-loop-part : goal.invariant-loop-part
invariant-loop-part l =
    l.total + through l.image l.costs (regions_from 0 (map (read_region (routines_in l.before)) (drop l.part-index l.parts)))
    ≡ through l.image l.costs (regions_from 0 (map (read_region (routines_in l.before)) l.parts))
