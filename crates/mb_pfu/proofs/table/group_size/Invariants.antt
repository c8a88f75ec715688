use Rattle.std.proofs.Common.{◌≡◌, drop}
use Rattle.mb_pfu.specs.Rows.{after}
use Rattle.mb_pfu.proofs.table.group_size.Given as goal

abbrev pub invariant-loop-row : goal.invariant-loop-row
invariant-loop-row l = record {
  size : l.size ≡ l.row-index;
  rest : after l.level l.rows ≡ after l.level (drop l.row-index l.rows);
}
