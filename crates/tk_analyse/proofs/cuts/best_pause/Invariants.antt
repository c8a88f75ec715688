use Rattle.std.proofs.Common.{◌≡◌, ◌≤◌, drop, length, IfSome}
use Rattle.std.specs.Option.{option_copied}
use Rattle.tk_paths.specs.Greatest.{best, paused}
use Rattle.tk_paths.specs.Told.{told_by}
use Rattle.tk_analyse.specs.Begun.{best_point}
use Rattle.tk_analyse.proofs.cuts.best_pause.Given as goal

abbrev pub invariant-loop-rest : goal.invariant-loop-rest
invariant-loop-rest l = record {
  within : l.rest ≤ length l.points;
  most : l.most ≡ best (paused l.image (told_by l.lines l.bounds) l.costs l.side) l.slot (drop l.rest l.points);
  point : option_copied l.best ≡ best_point (paused l.image (told_by l.lines l.bounds) l.costs l.side) l.slot (drop l.rest l.points);
  few : IfSome l.best (λ p. length p.now.stack ≤ 8);
}

abbrev pub decreases-loop-rest : goal.decreases-loop-rest
decreases-loop-rest l = l.rest
