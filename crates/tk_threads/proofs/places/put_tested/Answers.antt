use Rattle.std.proofs.Common.{◌++◌, refl, ap, ◌∙◌}
use mathlib.Core.Path.{ap₂}
use Rattle.tk_paths.specs.Numbers.{Kind, Numbers, testing, test_lines}
use Rattle.tk_paths.specs.Levels.{numbers_of}
use Rattle.tk_threads.proofs.EntranceLaws.{branching-is}
use Rattle.std.proofs.lemmas.Result.{err_from_is_err_and}
use Rattle.tk_numbers.specs.Charges.{testing_cost}
use Rattle.tk_numbers.proofs.Rooms.{room_same}
use Rattle.tk_threads.proofs.SmallLaws.{test-branch}
use Rattle.tk_threads.proofs.places.put_tested.Goals as goal

pub returns-clause-numbers : goal.returns-clause-numbers
returns-clause-numbers c =
    let I = c.args.image.now in
    let K = c.args.costs.now in
    c.in_ok-levels.ensures.exact
    ∙ ap (testing I K c.args.place c.args.count c.args.branch) (c.in_ok-both.ensures.exact ∙ branching-is I K (numbers_of c.args.untaken.now) (numbers_of c.args.taken.now))

pub returns-clause-lines : goal.returns-clause-lines
returns-clause-lines c =
    let I = c.args.image.now in
    let K = c.args.costs.now in
    c.in_ok-test_lines.ensures.lines
    ∙ ap₂ (λ (k : Kind) (V : Numbers). test_lines I K k c.args.place c.args.count c.args.branch V ++ c.args.made.now.lines) c.in_ok-kind.ensures.exact
    (c.in_ok-both.ensures.exact ∙ branching-is I K (numbers_of c.args.untaken.now) (numbers_of c.args.taken.now))

pub returns-in_err-both-clause-fits : goal.returns-in_err-both-clause-fits
returns-in_err-both-clause-fits c = λ h.
    let p = err_from_is_err_and c.from_residual-in_err-both.result c.from_residual-in_err-both.ensures.1 in
    let T = testing_cost c.args.image.now c.args.costs.now c.args.place c.args.count c.args.branch in
    rw (p.1, p.2) (c.in_err-both.ensures.fits (test-branch c.args.image.now c.args.costs.now T (numbers_of c.args.untaken.now) (numbers_of c.args.taken.now) h))

pub returns-in_err-test_lines-clause-fits : goal.returns-in_err-test_lines-clause-fits
returns-in_err-test_lines-clause-fits c = λ h.
    let p = err_from_is_err_and c.from_residual-in_err-test_lines.result c.from_residual-in_err-test_lines.ensures.1 in
    let T = testing_cost c.args.image.now c.args.costs.now c.args.place c.args.count c.args.branch in
    rw (p.1, p.2) (c.in_err-test_lines.ensures.fits (room_same T T _ (numbers_of c.in_ok-both.both) refl (c.in_ok-both.ensures.exact ∙ branching-is c.args.image.now c.args.costs.now (numbers_of c.args.untaken.now) (numbers_of c.args.taken.now)) h))

pub returns-in_err-levels-clause-fits : goal.returns-in_err-levels-clause-fits
returns-in_err-levels-clause-fits c = λ h.
    let p = err_from_is_err_and c.from_residual-in_err-levels.result c.from_residual-in_err-levels.ensures.1 in
    let T = testing_cost c.args.image.now c.args.costs.now c.args.place c.args.count c.args.branch in
    rw (p.1, p.2) (c.in_err-levels.ensures.fits (room_same T T _ (numbers_of c.in_ok-both.both) refl (c.in_ok-both.ensures.exact ∙ branching-is c.args.image.now c.args.costs.now (numbers_of c.args.untaken.now) (numbers_of c.args.taken.now)) h))
