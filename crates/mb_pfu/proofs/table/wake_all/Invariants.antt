use Rattle.std.proofs.Common.{◌≡◌, ◌++◌, take, drop, map}
use Rattle.mb_pfu.specs.Rows.{each_row, woken, as_they_are}
use Rattle.mb_pfu.proofs.table.wake_all.Given as goal

abbrev pub invariant-loop-row : goal.invariant-loop-row
invariant-loop-row l = map (each_row as_they_are woken) l.fn.rows ≡ take l.row-index l.rows ++ map (each_row as_they_are woken) (drop l.row-index l.rows)
