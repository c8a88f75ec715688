use Rattle.std.proofs.Common.{◌≡◌, ◌<◌, ℕ, drop, IsFalse}
use Rattle.mb_pfu.specs.Rows.{report_in, row_at, due, selects}
use Rattle.mb_pfu.proofs.table.place_due.Given as goal

abbrev pub invariant-loop-i : goal.invariant-loop-i
invariant-loop-i l = record {
  rest : report_in due l.rows ≡ report_in due (drop l.i l.rows);
  none : (k : ℕ) → k < l.i → IsFalse (selects due (row_at l.rows k));
}
