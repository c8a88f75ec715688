use Rattle.std.proofs.Common.{◌≡◌, ◌++◌, take, drop, map}
use Rattle.mb_pfu.specs.Rows.{each_row, renewed, as_it_is}
use Rattle.mb_pfu.proofs.table.renew_all.Given as goal

abbrev pub invariant-loop-row : goal.invariant-loop-row
invariant-loop-row l = map (each_row (map renewed) as_it_is) l.fn.rows ≡ take l.row-index l.rows ++ map (each_row (map renewed) as_it_is) (drop l.row-index l.rows)
