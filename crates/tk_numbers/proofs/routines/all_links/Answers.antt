use Rattle.std.proofs.Common.{arith}
use Rattle.std.proofs.lemmas.Result.{err_from_is_err_and}
use Rattle.tk_numbers.specs.Routines.{IsShallow}
use Rattle.tk_numbers.proofs.SmallSections.{section-here}
use Rattle.tk_numbers.proofs.routines.all_links.Goals as goal

pub returns-in_err-add_links-clause-fits : goal.returns-in_err-add_links-clause-fits
returns-in_err-add_links-clause-fits c = λ h.
    let p = err_from_is_err_and c.from_residual.result c.from_residual.ensures.1 in
    rw (p.1, p.2) (c.in_err-add_links.ensures.fits (section-here IsShallow c.args.sections.now c.loop-i.i c.index-sections-i.result (omega arith) c.index-sections-i.is h))
