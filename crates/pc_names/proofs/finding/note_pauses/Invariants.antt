use Rattle.std.proofs.Common.{◌≡◌, drop}
use Rattle.pt_base.specs.First.{first_of}
use Rattle.pc_names.specs.Faults.{pause_faults}
use Rattle.pc_names.proofs.finding.note_pauses.Given as goal

abbrev pub invariant-loop-item : goal.invariant-loop-item
invariant-loop-item l = first_of l.so_far (pause_faults l.threads (drop l.item-index l.items)) ≡ first_of l.fn.first (pause_faults l.threads l.items)
