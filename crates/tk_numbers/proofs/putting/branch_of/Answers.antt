use Rattle.std.proofs.Common.{◌∙◌}
use Rattle.tk_paths.specs.Levels.{numbers_of}
use Rattle.tk_numbers.proofs.Tests.{branching_is, branching_small}
use Rattle.std.proofs.lemmas.Result.{err_from_is_err_and}
use Rattle.tk_numbers.proofs.putting.branch_of.Goals as goal

pub returns-clause-exact : goal.returns-clause-exact
returns-clause-exact c =
    c.in_ok-at.ensures.exact ∙ branching_is c.args.image.now c.args.costs.now (numbers_of c.args.untaken.now) (numbers_of c.args.taken.now)

pub returns-in_err-at-clause-fits : goal.returns-in_err-at-clause-fits
returns-in_err-at-clause-fits c = λ h.
    let p = err_from_is_err_and c.from_residual.result c.from_residual.ensures.1 in
    rw (p.1, p.2) (c.in_err-at.ensures.fits (branching_small c.args.image.now c.args.costs.now (numbers_of c.args.untaken.now) (numbers_of c.args.taken.now) h))
