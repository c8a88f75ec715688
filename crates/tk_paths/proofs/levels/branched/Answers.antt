use Rattle.tk_paths.specs.Levels.{numbers_of}
use Rattle.tk_paths.proofs.LevelLaws.{branching-told}
use Rattle.std.proofs.lemmas.Result.{err_from_is_err_and}
use Rattle.tk_paths.proofs.Rooms.{branch-untaken, branch-taken}
use Rattle.tk_paths.proofs.levels.branched.Goals as goal

pub returns-clause-exact : goal.returns-clause-exact
returns-clause-exact c =
    branching-told c.args.costs.now (numbers_of c.args.untaken.now) (numbers_of c.args.taken.now) (numbers_of c.in_ok-first.first) (numbers_of c.in_ok-second.second) _ c.cost.result c.cost-2.result
    c.cost.ensures.cost c.cost-2.ensures.cost c.in_ok-first.ensures.exact c.in_ok-second.ensures.exact c.in_ok-both.ensures.exact

pub returns-in_err-first-clause-fits : goal.returns-in_err-first-clause-fits
returns-in_err-first-clause-fits c = λ h.
    let p = err_from_is_err_and c.from_residual.result c.from_residual.ensures.1 in
    rw (p.1, p.2) (c.in_err-first.ensures.fits (branch-untaken c.args.costs.now (numbers_of c.args.untaken.now) (numbers_of c.args.taken.now) c.cost.result c.cost.ensures.cost h))

pub returns-in_err-second-clause-fits : goal.returns-in_err-second-clause-fits
returns-in_err-second-clause-fits c = λ h.
    let p = err_from_is_err_and c.from_residual-in_err-second.result c.from_residual-in_err-second.ensures.1 in
    rw (p.1, p.2) (c.in_err-second.ensures.fits (branch-taken c.args.costs.now (numbers_of c.args.untaken.now) (numbers_of c.args.taken.now) c.cost-2.result c.cost-2.ensures.cost h))
