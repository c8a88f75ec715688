use Rattle.std.proofs.Common.{◌≡◌, ◌≤◌, ◌+◌, ◌*◌, ◌++◌, length, take}
use Rattle.pt_trace.specs.Report.{values_text}
use Rattle.pt_trace.proofs.report.LineBuffer.push_values.Given as goal

-- the values so far were written
abbrev pub invariant-loop-value : goal.invariant-loop-value
invariant-loop-value l =
    (l.self ≡ l.fn.self ++ values_text (take l.value-index l.values))
    × (length l.self ≤ length l.fn.self + 12 * l.value-index)
