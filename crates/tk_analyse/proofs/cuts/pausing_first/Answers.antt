use Rattle.std.proofs.Common.{ℕ, Some, sym, subst}
use Rattle.std.proofs.lemmas.Result.{err_from_is_err_and}
use Rattle.tk_paths.specs.Sums.{plus}
use Rattle.tk_paths.specs.Faults.{IsSmall}
use Rattle.tk_paths.specs.Told.{pair_at}
use Rattle.tk_analyse.proofs.FirstLaws.{first_ends}
use Rattle.tk_analyse.proofs.cuts.pausing_first.Goals as goal

pub returns-in_err-ending-clause-fits : goal.returns-in_err-ending-clause-fits
returns-in_err-ending-clause-fits c = λ h.
    let p = err_from_is_err_and c.from_residual-in_err-ending.result c.from_residual-in_err-ending.ensures.1 in
    let P : ℕ → Type 0 = λ n. IsSmall (plus (Some n) c.in_ok-rest.rest) in
    rw (p.1, p.2) (c.in_err-ending.ensures.fits (subst P (sym c.or_zero.ensures)
    (first_ends (pair_at c.args.bounds.now) c.args.child c.args.others h c.pair_at-2.result c.in_ok-rest.rest c.pair_at-2.ensures c.in_ok-rest.ensures.exact)))
