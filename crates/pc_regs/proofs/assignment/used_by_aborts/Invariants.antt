use Rattle.std.proofs.Common.{◌≡◌, max, drop}
use Rattle.pc_lower.specs.Trees.{pairs_of}
use Rattle.pc_regs.specs.Assignment.{used_by_aborts}
use Rattle.pc_regs.proofs.assignment.used_by_aborts.Given as goal

abbrev pub invariant-loop-abort : goal.invariant-loop-abort
invariant-loop-abort l = max l.most (used_by_aborts (pairs_of (drop l.abort-index l.aborts))) ≡ used_by_aborts (pairs_of l.aborts)
