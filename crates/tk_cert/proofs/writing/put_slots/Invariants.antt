use Rattle.std.proofs.Common.{◌≡◌, ◌++◌, drop}
use Rattle.pt_base.specs.Spelling.{each}
use Rattle.tk_cert.specs.Text.{slot_text}
use Rattle.tk_cert.proofs.writing.put_slots.Given as goal

abbrev pub invariant-loop-slot : goal.invariant-loop-slot
invariant-loop-slot l = l.out.items ++ each slot_text (drop l.slot-index l.slots) ≡ l.fn.out.items ++ each slot_text l.slots
