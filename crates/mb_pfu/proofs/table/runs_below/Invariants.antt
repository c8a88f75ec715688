use Rattle.std.proofs.Common.{◌≡◌, drop}
use Rattle.mb_pfu.specs.Rows.{runs_in}
use Rattle.mb_pfu.proofs.table.runs_below.Given as goal

abbrev pub invariant-loop-row : goal.invariant-loop-row
invariant-loop-row l = runs_in l.level l.rows ≡ runs_in l.level (drop l.row-index l.rows)
