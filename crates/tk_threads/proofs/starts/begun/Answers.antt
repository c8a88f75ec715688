use Rattle.std.proofs.Common.{◌∙◌, [], ap}
use Rattle.tk_paths.specs.Numbers.{level, entered}
use Rattle.tk_paths.specs.Programs.{pair_from}
use Rattle.tk_paths.specs.Trees.{read_code}
use Rattle.tk_numbers.specs.Charges.{routines_in}
use Rattle.std.proofs.lemmas.Result.{err_from_is_err_and}
use Rattle.tk_paths.specs.Levels.{numbers_of}
use Rattle.tk_threads.proofs.SmallLaws.{entry-behind}
use Rattle.tk_threads.proofs.starts.begun.Goals as goal

pub returns-clause-exact : goal.returns-clause-exact
returns-clause-exact c =
    c.level_at.ensures
    ∙ ap (λ V. level V 0)
    (c.in_ok-levels.ensures.exact
    ∙ ap (entered c.args.image.now c.args.costs.now (pair_from c.args.first c.args.later.now) [] (read_code (routines_in c.args.before.now) c.args.code.now))
    c.in_ok-end.ensures.exact)

pub returns-in_err-levels-clause-fits : goal.returns-in_err-levels-clause-fits
returns-in_err-levels-clause-fits c = λ h.
    let p = err_from_is_err_and c.from_residual-in_err-levels.result c.from_residual-in_err-levels.ensures.1 in
    rw (p.1, p.2) (c.in_err-levels.ensures.fits
    (entry-behind c.args.image.now c.args.costs.now (pair_from c.args.first c.args.later.now) [] (read_code (routines_in c.args.before.now) c.args.code.now) _ (numbers_of c.in_ok-end.end) c.in_ok-end.ensures.exact h))
