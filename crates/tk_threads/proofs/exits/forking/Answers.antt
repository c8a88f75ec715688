use Rattle.std.proofs.Common.{sym, subst, ap, ◌∙◌}
use mathlib.Core.Path.{ap₂}
use Rattle.tk_paths.specs.Numbers.{after}
use Rattle.tk_paths.specs.Programs.{pair_from}
use Rattle.tk_paths.specs.Levels.{numbers_of, added}
use Rattle.tk_threads.proofs.EntranceLaws.{forking-is}
use Rattle.std.proofs.lemmas.Result.{err_from_is_err_and}
use Rattle.tk_paths.specs.Faults.{AllSmall}
use Rattle.tk_threads.proofs.SmallLaws.{fork-small}
use Rattle.tk_threads.proofs.exits.forking.Goals as goal

pub returns-clause-exact : goal.returns-clause-exact
returns-clause-exact c =
    let V = numbers_of c.args.behind.now in
    let rest = numbers_of c.in_ok-rest.rest in
    c.in_ok-levels.ensures.exact ∙ ap₂ after c.cost.ensures.cost c.in_ok-both.ensures.exact
    ∙ forking-is c.args.image.now c.args.costs.now (pair_from c.args.first c.args.starts.now) c.args.aborts.now c.args.low c.args.count V
    rest (numbers_of c.in_ok-stay.stay) (numbers_of c.in_ok-go.go) c.in_ok-rest.ensures.exact
    (c.in_ok-stay.ensures.exact ∙ ap (λ o. added o rest) c.in_ok-paused.ensures.exact) (c.in_ok-go.ensures.exact ∙ ap (λ o. added o V) c.in_ok-ends.ensures.exact)

pub returns-in_err-stay-clause-fits : goal.returns-in_err-stay-clause-fits
returns-in_err-stay-clause-fits c = λ k h.
    let p = err_from_is_err_and c.from_residual-in_err-stay.result c.from_residual-in_err-stay.ensures.1 in
    let S = pair_from c.args.first c.args.starts.now in
    let f = fork-small c.args.image.now c.args.costs.now S c.args.aborts.now c.args.low c.args.count (numbers_of c.args.behind.now) h in
    rw (p.1, p.2) (c.in_err-stay.ensures.fits (subst AllSmall (sym (ap₂ added c.in_ok-paused.ensures.exact c.in_ok-rest.ensures.exact)) f.0))

pub returns-in_err-go-clause-fits : goal.returns-in_err-go-clause-fits
returns-in_err-go-clause-fits c = λ k h.
    let p = err_from_is_err_and c.from_residual-in_err-go.result c.from_residual-in_err-go.ensures.1 in
    let S = pair_from c.args.first c.args.starts.now in
    let V = numbers_of c.args.behind.now in
    let f = fork-small c.args.image.now c.args.costs.now S c.args.aborts.now c.args.low c.args.count V h in
    rw (p.1, p.2) (c.in_err-go.ensures.fits (subst AllSmall (sym (ap (λ o. added o V) c.in_ok-ends.ensures.exact)) f.1))

pub returns-in_err-levels-clause-fits : goal.returns-in_err-levels-clause-fits
returns-in_err-levels-clause-fits c = λ k h.
    let p = err_from_is_err_and c.from_residual-in_err-levels.result c.from_residual-in_err-levels.ensures.1 in
    let V = numbers_of c.args.behind.now in
    let rest = numbers_of c.in_ok-rest.rest in
    rw (p.1, p.2) (c.in_err-levels.ensures.fits (subst AllSmall (sym (ap₂ after c.cost.ensures.cost c.in_ok-both.ensures.exact
    ∙ forking-is c.args.image.now c.args.costs.now (pair_from c.args.first c.args.starts.now) c.args.aborts.now c.args.low c.args.count V
    rest (numbers_of c.in_ok-stay.stay) (numbers_of c.in_ok-go.go) c.in_ok-rest.ensures.exact
    (c.in_ok-stay.ensures.exact ∙ ap (λ o. added o rest) c.in_ok-paused.ensures.exact) (c.in_ok-go.ensures.exact ∙ ap (λ o. added o V) c.in_ok-ends.ensures.exact))) h))
