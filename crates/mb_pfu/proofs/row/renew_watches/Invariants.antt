use Rattle.std.proofs.Common.{◌≡◌, ◌++◌, take, drop, map}
use Rattle.mb_pfu.specs.Rows.{renewed}
use Rattle.mb_pfu.proofs.row.renew_watches.Given as goal

abbrev pub invariant-loop-watch : goal.invariant-loop-watch
invariant-loop-watch l = map renewed l.fn.watches ≡ take l.watch-index l.watches ++ map renewed (drop l.watch-index l.watches)
