use Rattle.std.proofs.Common.{◌≡◌, ◌≤◌, take, length}
use Rattle.mb_pfu.specs.Rows.{relief}
use Rattle.mb_pfu.proofs.row.innermost_fired.Given as goal

abbrev pub invariant-loop-i : goal.invariant-loop-i
invariant-loop-i l = record {
  within : l.i ≤ length l.watches;
  rest : relief l.watches ≡ relief (take l.i l.watches);
}

abbrev pub decreases-loop-i : goal.decreases-loop-i
decreases-loop-i l = l.i
