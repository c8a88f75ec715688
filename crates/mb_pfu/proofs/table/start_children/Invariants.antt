use Rattle.std.proofs.Common.{◌≡◌, ◌+◌, ◌≤◌, take, drop, length}
use Rattle.mb_pfu.specs.Rows.{started}
use Rattle.mb_pfu.proofs.table.start_children.Given as goal

abbrev pub invariant-loop-k : goal.invariant-loop-k
invariant-loop-k l = record {
  within : l.from ≤ length l.rows.items;
  some : l.k ≤ length l.starts;
  size : length l.rows.items + l.k ≡ length l.fn.rows.items + length l.starts;
  before : take l.from l.rows.items ≡ take l.from l.fn.rows.items;
  from_here : drop l.from l.rows.items ≡ started l.level (l.lo + l.k) (drop l.k l.starts) (drop l.from l.fn.rows.items);
}

abbrev pub decreases-loop-k : goal.decreases-loop-k
decreases-loop-k l = l.k
