use Rattle.std.proofs.Common.{◌≡◌, ◌+◌, ◌≤◌, min, drop}
use Rattle.pc_rules.specs.Weights.{thread_sum}
use Rattle.pc_rules.proofs.weights.thread_passages.Given as goal

abbrev pub invariant-loop-i : goal.invariant-loop-i
invariant-loop-i l = (l.total ≤ 2000001) × (min 2000001 (l.total + thread_sum (drop l.i l.functions) (drop l.i l.sizes)) ≡ min 2000001 (thread_sum l.functions l.sizes))
