use Rattle.std.proofs.Common.{◌≡◌, ◌++◌, drop, map}
use Rattle.pc_meaning.specs.Programs.{routine_of, numbering_of}
use Rattle.pc_meaning.specs.Lefts.{routines_of}
use Rattle.pc_lower.specs.Trees.{read}
use Rattle.pc_lower.specs.Lowered.{bodies_of}
use Rattle.pc_lower.proofs.lowering.bodies.Given as goal

abbrev pub invariant-loop-function : goal.invariant-loop-function
invariant-loop-function l =
    map read l.bodies.items ++ bodies_of (routines_of l.rooms l.functions) (map (routine_of l.rooms (numbering_of l.functions)) (drop l.function-index l.functions)) ≡ bodies_of (routines_of l.rooms l.functions) (routines_of l.rooms l.functions)
