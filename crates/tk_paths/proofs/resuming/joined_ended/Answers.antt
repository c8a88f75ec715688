use Rattle.std.proofs.Common.{◌≡◌, ◌+◌, length, sym, subst}
use Rattle.std.proofs.lemmas.Result.{err_from_is_err_and}
use Rattle.tk_paths.specs.declared.view.View.TheVariants.{On}
use Rattle.tk_paths.specs.Sums.{plus, resumed_ends}
use Rattle.tk_paths.specs.Kinds.{line_at}
use Rattle.tk_paths.specs.Acceptance.{number_in}
use Rattle.tk_paths.specs.Faults.{IsSmall}
use Rattle.tk_paths.specs.Told.{pair_at}
use Rattle.tk_paths.proofs.resuming.joined_ended.Goals as goal

pub returns-in_err-n-clause-fits : goal.returns-in_err-n-clause-fits
returns-in_err-n-clause-fits c = λ k h.
    let p = err_from_is_err_and c.from_residual-in_err-n.result c.from_residual-in_err-n.ensures.1 in
    let q = c.args.p.now in
    let e : plus c.in_ok-ending.ending c.number-behind.result
    ≡ plus (resumed_ends (pair_at c.args.bounds.now) c.args.lo c.args.count) (number_in (On c.args.side (length q.stack)) (line_at c.args.lines.now (q.at + 1))) =
    cc (c.in_ok-ending.ensures.exact) in
    rw (p.1, p.2) (c.in_err-n.ensures.fits (subst IsSmall (sym e) h))
