use Rattle.std.proofs.Common.{◌≡◌, drop}
use Rattle.tk_paths.specs.Sums.{greater}
use Rattle.tk_paths.specs.Greatest.{best, paused}
use Rattle.tk_paths.specs.Told.{told_by}
use Rattle.tk_paths.proofs.resuming.best_paused.Given as goal

abbrev pub invariant-loop-p : goal.invariant-loop-p
invariant-loop-p l =
    greater l.most (best (paused l.image (told_by l.lines l.bounds) l.costs l.side) l.slot (drop l.p-index l.image.pauses))
    ≡ best (paused l.image (told_by l.lines l.bounds) l.costs l.side) l.slot l.image.pauses
