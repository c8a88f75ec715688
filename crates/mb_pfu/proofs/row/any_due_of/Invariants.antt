use Rattle.std.proofs.Common.{◌≡◌, drop}
use Rattle.mb_pfu.specs.Rows.{any_due}
use Rattle.mb_pfu.proofs.row.any_due_of.Given as goal

abbrev pub invariant-loop-watch : goal.invariant-loop-watch
invariant-loop-watch l = any_due l.watches ≡ any_due (drop l.watch-index l.watches)
