use Rattle.std.proofs.Common.{[], subst}
use Rattle.std.proofs.lemmas.Result.{err_from_is_err_and}
use Rattle.tk_paths.specs.declared.Section.{Section}
use Rattle.tk_paths.specs.Programs.{pair_from, ended}
use Rattle.tk_numbers.specs.Charges.{routines_in}
use Rattle.tk_threads.specs.Rooms.{IsSmallEntry}
use Rattle.tk_threads.specs.Sections.{own_code}
use Rattle.tk_threads.proofs.starts.section_start.Goals as goal

pub returns-in_err-numbers-in-OfThread-clause-fits : goal.returns-in_err-numbers-in-OfThread-clause-fits
returns-in_err-numbers-in-OfThread-clause-fits c = λ h.
    let p = err_from_is_err_and c.from_residual.result c.from_residual.ensures.1 in
    let P : Section → Type 0 = λ x. IsSmallEntry c.args.image.now c.args.costs.now (pair_from c.args.first c.args.later.now) [] (own_code (routines_in c.args.before.now) x) (ended c.args.image.now c.args.costs.now) in
    rw (p.1, p.2) (c.in_err-numbers-in-OfThread.ensures.fits (subst P c.in-OfThread.is h))
