use Rattle.std.proofs.Common.{◌≡◌, ◌-◌, [], ◌∷◌, ◌++◌, length, map}
use Rattle.pc_lower.specs.Trees.{read}
use Rattle.pc_lower.specs.Numbering.{generations}
use Rattle.pc_emit.proofs.slots.slots.Given as goal

abbrev pub invariant-loop-turn : goal.invariant-loop-turn
invariant-loop-turn l =
    l.slots.items ++ generations (map read l.bodies) (length l.bodies - l._turn) l.generation.items
    ≡ generations (map read l.bodies) (length l.bodies) (l.main ∷ [])
