use Rattle.std.proofs.Common.{◌≡◌, max, drop, map}
use Rattle.tk_paths.specs.Regions.{links_in}
use Rattle.tk_paths.specs.Trees.{regions_from, read_region}
use Rattle.tk_numbers.specs.Charges.{routines_in}
use Rattle.tk_numbers.proofs.routines.+links_in.Given as goal

abbrev pub invariant-loop-part : goal.invariant-loop-part
invariant-loop-part l =
    max l.most (links_in (regions_from 0 (map (read_region (routines_in l.before)) (drop l.part-index l.parts))))
    ≡ links_in (regions_from 0 (map (read_region (routines_in l.before)) l.parts))
