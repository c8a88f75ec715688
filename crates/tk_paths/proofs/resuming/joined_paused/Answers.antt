use Rattle.std.proofs.Common.{◌≡◌, length, sym, subst}
use Rattle.std.proofs.lemmas.Result.{err_from_is_err_and}
use Rattle.tk_paths.specs.Sums.{plus, resumed_paused}
use Rattle.tk_paths.specs.Greatest.{resting}
use Rattle.tk_paths.specs.Faults.{IsSmall}
use Rattle.tk_paths.specs.Told.{pair_at, told_by}
use Rattle.tk_paths.proofs.resuming.joined_paused.Goals as goal

pub returns-in_err-n-clause-fits : goal.returns-in_err-n-clause-fits
returns-in_err-n-clause-fits c = λ k h.
    let p = err_from_is_err_and c.from_residual-in_err-n.result c.from_residual-in_err-n.ensures.1 in
    let q = c.args.p.now in
    let e : plus c.in_ok-pausing.pausing c.resting-rests.result
    ≡ plus (resumed_paused (pair_at c.args.bounds.now) c.args.lo c.args.count)
    (resting c.args.image.now (told_by c.args.lines.now c.args.bounds.now) c.args.costs.now q.stack (length q.stack) c.args.side) =
    cc (c.in_ok-pausing.ensures.exact) in
    rw (p.1, p.2) (c.in_err-n.ensures.fits (subst IsSmall (sym e) h))
