use Rattle.std.proofs.Common.{◌≡◌, ◌++◌, drop, map}
use Rattle.pc_meaning.specs.Programs.{routine_of, numbering_of}
use Rattle.pc_lower.specs.Trees.{pairs_of}
use Rattle.pc_lower.specs.Aborts.{aborts_of}
use Rattle.pc_lower.specs.Lowered.{conditions_of}
use Rattle.pc_lower.proofs.conditions.aborts.Given as goal

abbrev pub invariant-loop-function : goal.invariant-loop-function
invariant-loop-function l =
    pairs_of l.aborts.items ++ conditions_of (aborts_of (map (routine_of l.rooms (numbering_of l.functions)) (drop l.function-index l.functions)))
    ≡ conditions_of (aborts_of (map (routine_of l.rooms (numbering_of l.functions)) l.functions))
