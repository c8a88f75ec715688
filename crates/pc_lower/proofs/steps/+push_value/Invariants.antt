use Rattle.std.proofs.Common.{◌≡◌, ◌++◌, drop}
use Rattle.pc_meaning.specs.Programs as programs
use Rattle.pc_lower.specs.Lowered.{operands_of}
use Rattle.pc_lower.proofs.steps.+push_value.Given as goal

abbrev pub invariant-push_operands-loop-op : goal.invariant-push_operands-loop-op
invariant-push_operands-loop-op l = l.steps ++ operands_of (programs.operands_of l.rooms (drop l.op-index l.rest)) l.to ≡ l.initial.steps ++ operands_of (programs.operands_of l.rooms l.rest) l.to
