use Rattle.std.proofs.Common.{◌≡◌, ◌+◌, drop, true}
use Rattle.mb_pfu.specs.Rows.{any_due, first_due}
use Rattle.mb_pfu.proofs.row.first_due_of.Given as goal

abbrev pub invariant-loop-i : goal.invariant-loop-i
invariant-loop-i l = record { place : first_due l.watches ≡ l.i + first_due (drop l.i l.watches); due : any_due (drop l.i l.watches) ≡ true }
