use Rattle.std.proofs.Common.{◌≡◌, ◌<◌, ℕ, drop, IsFalse}
use Rattle.mb_pfu.specs.Rows.{report_in, row_at, numbered, selects}
use Rattle.mb_pfu.proofs.table.place_of.Given as goal

abbrev pub invariant-loop-i : goal.invariant-loop-i
invariant-loop-i l = record {
  rest : report_in (numbered l.s) l.rows ≡ report_in (numbered l.s) (drop l.i l.rows);
  none : (k : ℕ) → k < l.i → IsFalse (selects (numbered l.s) (row_at l.rows k));
}
