use Rattle.std.proofs.Common.{◌≡◌, ◌++◌, drop, map}
use Rattle.tk_paths.specs.Choices.{code_pieces}
use Rattle.tk_paths.specs.Trees.{codes_from, read_code}
use Rattle.tk_numbers.specs.Charges.{routines_in}
use Rattle.tk_plans.specs.Ways.{crossing}
use Rattle.tk_plans.proofs.pieces.+code_pieces.Given as goal

abbrev pub invariant-loop-part : goal.invariant-loop-part
invariant-loop-part l =
    l.pieces.items ++ map (crossing l.image l.costs) (code_pieces (codes_from 0 (map (read_code (routines_in l.before)) (drop l.part-index l.codes))))
    ≡ l.initial.pieces.items ++ map (crossing l.image l.costs) (code_pieces (codes_from 0 (map (read_code (routines_in l.before)) l.codes)))
