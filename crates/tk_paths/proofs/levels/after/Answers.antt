use Rattle.std.proofs.Common.{◌∙◌}
use Rattle.tk_paths.specs.Levels.{numbers_of}
use Rattle.tk_paths.proofs.LevelLaws.{after-is}
use Rattle.std.proofs.lemmas.Result.{err_from_is_err_and}
use Rattle.tk_paths.proofs.Rooms.{added-after}
use Rattle.tk_paths.proofs.levels.after.Goals as goal

pub returns-clause-exact : goal.returns-clause-exact
returns-clause-exact c = c.in_ok-levels.ensures.exact ∙ after-is c.args.cycles (numbers_of c.args.behind.now)

pub returns-in_err-levels-clause-fits : goal.returns-in_err-levels-clause-fits
returns-in_err-levels-clause-fits c = λ h.
    let p = err_from_is_err_and c.from_residual.result c.from_residual.ensures.1 in
    rw (p.1, p.2) (c.in_err-levels.ensures.fits (added-after c.args.cycles (numbers_of c.args.behind.now) h))
