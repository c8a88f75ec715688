use Rattle.std.proofs.Common.{ℕ, Some, sym, subst, arith}
use Rattle.std.proofs.lemmas.Result.{err_from_is_err_and}
use Rattle.tk_paths.specs.Sums.{plus}
use Rattle.tk_paths.specs.Faults.{IsSmall}
use Rattle.tk_paths.specs.Told.{pair_at}
use Rattle.tk_paths.proofs.SmallLaws.{end-small}
use Rattle.tk_paths.proofs.joins.+resumed_paused.Goals as goal

pub returns-in_err-ended-clause-fits : goal.returns-in_err-ended-clause-fits
returns-in_err-ended-clause-fits t c = λ h.
    let p = err_from_is_err_and c.from_residual-in_err-ended.result c.from_residual-in_err-ended.ensures.1 in
    let P : ℕ → Type 0 = λ n. IsSmall (plus (Some n) c.in_ok-rest.rest) in
    rw (p.1, p.2) (c.in_err-ended.ensures.fits (subst P (sym c.or_zero.ensures)
    (end-small (pair_at c.args.bounds.now) c.args.child c.args.count c.pair_at-2.result c.in_ok-rest.rest (omega arith) c.pair_at-2.ensures c.in_ok-rest.ensures.exact h)))
