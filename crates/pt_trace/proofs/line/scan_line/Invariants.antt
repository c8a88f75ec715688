use Rattle.std.proofs.Common.{◌≡◌, ◌≤◌, Some, drop}
use Rattle.pt_trace.specs.Scan.{scanned, at_start}
use Rattle.pt_trace.proofs.line.scan_line.Given as goal

-- the rest of the line gives what the whole gives
abbrev pub invariant-loop-byte : goal.invariant-loop-byte
invariant-loop-byte l =
    (scanned (drop l.byte-index l.bytes) l.row l.count (Some l.scan) ≡ scanned l.bytes l.fn.row 0 at_start)
    × (l.count ≤ l.byte-index)
