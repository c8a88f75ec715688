use Rattle.std.proofs.Common.{arith}
use Rattle.std.proofs.lemmas.Result.{err_from_is_err_and}
use Rattle.tk_paths.specs.Told.{pair_at}
use Rattle.tk_paths.proofs.SmallLaws.{ends-small}
use Rattle.tk_paths.proofs.joins.+resumed_ends.Goals as goal

pub returns-in_err-n-clause-fits : goal.returns-in_err-n-clause-fits
returns-in_err-n-clause-fits t c = λ h.
    let p = err_from_is_err_and c.from_residual-in_err-n.result c.from_residual-in_err-n.ensures.1 in
    rw (p.1, p.2) (c.in_err-n.ensures.fits
    (ends-small (pair_at c.args.bounds.now) c.args.child c.args.count c.pair_at.result c.in_ok-rest.rest (omega arith) c.pair_at.ensures c.in_ok-rest.ensures.exact h))
