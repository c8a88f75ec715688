use Rattle.std.proofs.Common.{◌≡◌, ◌++◌, drop, map}
use Rattle.pc_lower.specs.Trees.{read}
use Rattle.pc_lower.specs.Numbering.{all_started}
use Rattle.pc_emit.proofs.slots.all_started.Given as goal

abbrev pub invariant-loop-function : goal.invariant-loop-function
invariant-loop-function l =
    l.all.items ++ all_started (map read l.bodies) (drop l.function-index l.functions) ≡ all_started (map read l.bodies) l.functions
