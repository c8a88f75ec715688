use Rattle.std.proofs.Common.{◌≡◌, drop}
use Rattle.pc_emit.specs.Image.{found_from, slot_of}
use Rattle.pc_emit.proofs.slots.slot_of.Given as goal

abbrev pub invariant-loop-slot : goal.invariant-loop-slot
invariant-loop-slot l = found_from l.slot l.function (drop l.slot l.slots) ≡ slot_of l.slots l.function
