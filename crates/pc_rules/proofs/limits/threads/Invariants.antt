use Rattle.std.proofs.Common.{◌≡◌, ◌≤◌, take}
use Rattle.std.specs.Prelude.{count_by}
use Rattle.pc_rules.specs.Faults.{is_thread}
use Rattle.pc_rules.proofs.limits.threads.Given as goal

abbrev pub invariant-loop-f : goal.invariant-loop-f
invariant-loop-f l = (l.total ≤ l.f-index) × (l.total ≡ count_by is_thread (take l.f-index l.functions))
