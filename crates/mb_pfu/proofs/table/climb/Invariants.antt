use Rattle.std.proofs.Common.{◌≡◌, ◌≤◌, take, drop, length}
use Rattle.mb_pfu.specs.Rows.{climbs, settle_row}
use Rattle.mb_pfu.proofs.table.climb.Given as goal

abbrev pub invariant-loop-i : goal.invariant-loop-i
invariant-loop-i l = record {
  within : l.i ≤ length l.rows.items;
  rest : climbs settle_row (take l.i l.rows.items) (drop l.i l.rows.items, l.level) ≡ climbs settle_row (take l.from l.fn.rows.items) (drop l.from l.fn.rows.items, l.fn.level);
}

abbrev pub decreases-loop-i : goal.decreases-loop-i
decreases-loop-i l = l.i
