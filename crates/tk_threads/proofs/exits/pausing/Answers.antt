use Rattle.std.proofs.Common.{◌∙◌, sym, subst}
use mathlib.Core.Path.{ap₂}
use Rattle.tk_paths.specs.Numbers.{after}
use Rattle.tk_threads.specs.Codes.{pausing}
use Rattle.std.proofs.lemmas.Result.{err_from_is_err_and}
use Rattle.tk_paths.specs.Faults.{AllSmall}
use Rattle.tk_threads.proofs.exits.pausing.Goals as goal

pub returns-clause-exact : goal.returns-clause-exact
unfolding pausing
returns-clause-exact c = c.in_ok-levels.ensures.exact ∙ ap₂ after c.cost.ensures.cost c.in_ok-rest.ensures.exact

pub returns-in_err-levels-clause-fits : goal.returns-in_err-levels-clause-fits
unfolding pausing
returns-in_err-levels-clause-fits c = λ h.
    let p = err_from_is_err_and c.from_residual-in_err-levels.result c.from_residual-in_err-levels.ensures.1 in
    rw (p.1, p.2) (c.in_err-levels.ensures.fits (subst AllSmall (sym (ap₂ after c.cost.ensures.cost c.in_ok-rest.ensures.exact)) h))
