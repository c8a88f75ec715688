use Rattle.std.proofs.Common.{◌≡◌, drop}
use Rattle.mb_pfu.specs.Rows.{report_in, ready}
use Rattle.mb_pfu.proofs.table.first_ready_of.Given as goal

abbrev pub invariant-loop-row : goal.invariant-loop-row
invariant-loop-row l = report_in ready l.rows ≡ report_in ready (drop l.row-index l.rows)
