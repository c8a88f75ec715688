use Rattle.std.proofs.Common.{◌≡◌, drop}
use Rattle.pt_base.specs.First.{first_of}
use Rattle.pc_rules.specs.Faults.{tall_faults}
use Rattle.pc_rules.proofs.limits.note_tall.Given as goal

abbrev pub invariant-loop-i : goal.invariant-loop-i
invariant-loop-i l = first_of l.so_far (tall_faults (drop l.i l.functions) (drop l.i l.heights)) ≡ first_of l.fn.first (tall_faults l.functions l.heights)
