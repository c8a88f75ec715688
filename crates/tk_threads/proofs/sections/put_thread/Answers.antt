use Rattle.std.proofs.Common.{[]}
use Rattle.std.proofs.lemmas.Result.{err_from_is_err_and}
use Rattle.tk_paths.specs.Programs.{pair_from}
use Rattle.tk_paths.specs.Trees.{read_code}
use Rattle.tk_paths.specs.Levels.{numbers_of}
use Rattle.tk_numbers.specs.Charges.{routines_in}
use Rattle.tk_threads.proofs.SmallLaws.{code-behind}
use Rattle.tk_threads.proofs.sections.put_thread.Goals as goal

pub returns-in_err-code_lines-clause-fits : goal.returns-in_err-code_lines-clause-fits
returns-in_err-code_lines-clause-fits c = λ h.
    let p = err_from_is_err_and c.from_residual-in_err-code_lines.result c.from_residual-in_err-code_lines.ensures.1 in
    rw (p.1, p.2) (c.in_err-code_lines.ensures.fits
    (code-behind c.args.image.now c.args.costs.now (pair_from 0 c.args.starts.now) [] (read_code (routines_in c.args.before.now) c.args.code.now) _ (numbers_of c.in_ok-end.end) c.in_ok-end.ensures.exact h))
