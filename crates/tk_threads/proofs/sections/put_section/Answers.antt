use Rattle.std.proofs.Common.{subst}
use Rattle.tk_paths.specs.declared.Section.{Section}
use Rattle.tk_paths.specs.Programs.{pair_from}
use Rattle.tk_numbers.specs.Charges.{routines_in}
use Rattle.tk_threads.specs.Rooms.{IsSmallSection}
use Rattle.tk_numbers.specs.Routines.{read_section}
use Rattle.tk_threads.proofs.sections.put_section.Goals as goal

pub returns-in-OfThread-clause-fits : goal.returns-in-OfThread-clause-fits
returns-in-OfThread-clause-fits c = λ h.
    let P : Section → Type 0 = λ x. IsSmallSection c.args.image.now c.args.costs.now (pair_from 0 c.args.starts.now) (read_section (routines_in c.args.before.now) x) in
    c.put_thread.ensures.fits (subst P c.in-OfThread.is h)
