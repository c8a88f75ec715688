use Rattle.std.proofs.Common.{◌-◌, arith}
use Rattle.tk_paths.specs.Programs.{pair_from}
use Rattle.tk_threads.specs.Sections.{lines_of, weights_of}
use Rattle.tk_numbers.proofs.Before.{flat_step}
use Rattle.std.proofs.lemmas.Result.{err_from_is_err_and}
use Rattle.tk_threads.specs.Rooms.{IsSmallSection}
use Rattle.tk_numbers.proofs.SmallSections.{section-here}
use Rattle.tk_threads.proofs.sections.made_of.Goals as goal

pub loop-i-preserved : goal.loop-i-preserved
loop-i-preserved c = record {
  within = omega arith;
  lines = flat_step (lines_of c.args.image.now c.args.costs.now (pair_from 0 c.args.starts.now)) c.args.sections.now c.loop-i.i _ _ _ _ (omega arith) (omega arith) c.index-sections-i.is c.in_ok-put_section.ensures.lines c.loop-i.invariant.lines;
  weights = flat_step (weights_of c.args.image.now c.args.costs.now) c.args.sections.now c.loop-i.i _ _ _ _ (omega arith) (omega arith) c.index-sections-i.is c.in_ok-put_section.ensures.weights c.loop-i.invariant.weights;
}

pub returns-in_err-put_section-clause-fits : goal.returns-in_err-put_section-clause-fits
returns-in_err-put_section-clause-fits c = λ h.
    let p = err_from_is_err_and c.from_residual.result c.from_residual.ensures.1 in
    rw (p.1, p.2) (c.in_err-put_section.ensures.fits
    (section-here (IsSmallSection c.args.image.now c.args.costs.now (pair_from 0 c.args.starts.now)) c.args.sections.now (c.loop-i.i - 1) c.index-sections-i.result (omega arith) c.index-sections-i.is h))
