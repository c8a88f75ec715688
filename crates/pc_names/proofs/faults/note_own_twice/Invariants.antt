use Rattle.std.proofs.Common.{◌≡◌, drop}
use Rattle.pt_base.specs.First.{first_of}
use Rattle.pc_names.specs.Faults.{own_faults}
use Rattle.pc_names.proofs.faults.note_own_twice.Given as goal

abbrev pub invariant-loop-item : goal.invariant-loop-item
invariant-loop-item l = first_of l.so_far (own_faults (drop l.item-index l.items)) ≡ first_of l.fn.first (own_faults l.items)
