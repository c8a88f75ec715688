use Rattle.std.proofs.lemmas.Result.{err_from_is_err_and}
use Rattle.tk_paths.specs.Numbers.{after}
use Rattle.tk_paths.specs.Levels.{numbers_of}
use Rattle.tk_numbers.specs.Charges.{testing_cost}
use Rattle.tk_numbers.proofs.Rooms.{branch_near, branch_far}
use Rattle.tk_numbers.proofs.putting.put_choice.Goals as goal

pub returns-in_err-untaken-clause-fits : goal.returns-in_err-untaken-clause-fits
returns-in_err-untaken-clause-fits c = λ k h.
    let p = err_from_is_err_and c.from_residual.result c.from_residual.ensures.1 in
    let T = testing_cost c.args.image.now c.args.costs.now c.args.from c.args.count c.args.branch in
    rw (p.1, p.2) (c.in_err-untaken.ensures.fits
    (branch_near c.args.image.now c.args.costs.now T (after c.args.first (numbers_of c.args.back.now)) (after c.args.second (numbers_of c.args.behind.now)) h))

pub returns-in_err-taken-clause-fits : goal.returns-in_err-taken-clause-fits
returns-in_err-taken-clause-fits c = λ k h.
    let p = err_from_is_err_and c.from_residual-in_err-taken.result c.from_residual-in_err-taken.ensures.1 in
    let T = testing_cost c.args.image.now c.args.costs.now c.args.from c.args.count c.args.branch in
    rw (p.1, p.2) (c.in_err-taken.ensures.fits
    (branch_far c.args.image.now c.args.costs.now T (after c.args.first (numbers_of c.args.back.now)) (after c.args.second (numbers_of c.args.behind.now)) h))
