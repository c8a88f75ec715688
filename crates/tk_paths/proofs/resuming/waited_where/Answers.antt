use Rattle.std.proofs.Common.{ℕ, Option, subst}
use Rattle.std.proofs.lemmas.Result.{err_from_is_err_and}
use Rattle.tk_paths.specs.Greatest.{where_some, tested, joined}
use Rattle.tk_paths.specs.Faults.{IsSmall}
use Rattle.tk_paths.specs.Told.{told_by}
use Rattle.tk_paths.proofs.SmallLaws.{tested-inner}
use Rattle.tk_paths.proofs.resuming.waited_where.Goals as goal

pub returns-in_err-behind-in-Some-clause-fits : goal.returns-in_err-behind-in-Some-clause-fits
returns-in_err-behind-in-Some-clause-fits c = λ k h.
    let p = err_from_is_err_and c.from_residual.result c.from_residual.ensures.1 in
    let I = c.args.image.now in
    let C = told_by c.args.lines.now c.args.bounds.now in
    let K = c.args.costs.now in
    let q = c.args.p.now in
    let inner = joined I C K c.args.side q c.args.lo c.args.count in
    let P : Option ℕ → Type 0 = λ o. IsSmall (where_some o (tested I C K c.args.side 0 q.stack inner)) in
    rw (p.1, p.2) (c.in_err-behind-in-Some.ensures.fits k (tested-inner I C K c.args.side 0 q.stack inner (subst P c.in-Some.is h)))
