use Rattle.std.proofs.Common.{◌≡◌, ◌+◌, drop}
use Rattle.mb_pfu.specs.Rows.{busy_in}
use Rattle.mb_pfu.proofs.table.any_busy.Given as goal

abbrev pub invariant-loop-i : goal.invariant-loop-i
invariant-loop-i l = busy_in l.lo l.starts l.rows ≡ busy_in (l.lo + l.i) (drop l.i l.starts) l.rows
