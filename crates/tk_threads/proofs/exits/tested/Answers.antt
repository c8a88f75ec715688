use Rattle.std.proofs.Common.{refl, ap, ◌∙◌}
use Rattle.tk_paths.specs.Numbers.{testing}
use Rattle.tk_paths.specs.Levels.{numbers_of}
use Rattle.tk_threads.proofs.EntranceLaws.{branching-is}
use Rattle.std.proofs.lemmas.Result.{err_from_is_err_and}
use Rattle.tk_numbers.specs.Charges.{testing_cost}
use Rattle.tk_numbers.proofs.Rooms.{room_same}
use Rattle.tk_threads.proofs.SmallLaws.{test-branch}
use Rattle.tk_threads.proofs.exits.tested.Goals as goal

pub returns-clause-exact : goal.returns-clause-exact
returns-clause-exact c =
    let I = c.args.image.now in
    let K = c.args.costs.now in
    c.in_ok-levels.ensures.exact
    ∙ ap (testing I K c.args.place c.args.count c.args.branch) (c.in_ok-both.ensures.exact ∙ branching-is I K (numbers_of c.args.untaken.now) (numbers_of c.args.taken.now))

pub returns-in_err-both-clause-fits : goal.returns-in_err-both-clause-fits
returns-in_err-both-clause-fits c = λ h.
    let p = err_from_is_err_and c.from_residual.result c.from_residual.ensures.1 in
    let T = testing_cost c.args.image.now c.args.costs.now c.args.place c.args.count c.args.branch in
    rw (p.1, p.2) (c.in_err-both.ensures.fits (test-branch c.args.image.now c.args.costs.now T (numbers_of c.args.untaken.now) (numbers_of c.args.taken.now) h))

pub returns-in_err-levels-clause-fits : goal.returns-in_err-levels-clause-fits
returns-in_err-levels-clause-fits c = λ h.
    let p = err_from_is_err_and c.from_residual-in_err-levels.result c.from_residual-in_err-levels.ensures.1 in
    let T = testing_cost c.args.image.now c.args.costs.now c.args.place c.args.count c.args.branch in
    rw (p.1, p.2) (c.in_err-levels.ensures.fits (room_same T T _ (numbers_of c.in_ok-both.both) refl (c.in_ok-both.ensures.exact ∙ branching-is c.args.image.now c.args.costs.now (numbers_of c.args.untaken.now) (numbers_of c.args.taken.now)) h))
