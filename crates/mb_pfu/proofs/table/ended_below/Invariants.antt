use Rattle.std.proofs.Common.{◌≡◌, drop}
use Rattle.mb_pfu.specs.Rows.{ended_in}
use Rattle.mb_pfu.proofs.table.ended_below.Given as goal

abbrev pub invariant-loop-row : goal.invariant-loop-row
invariant-loop-row l = ended_in l.level l.rows ≡ ended_in l.level (drop l.row-index l.rows)
