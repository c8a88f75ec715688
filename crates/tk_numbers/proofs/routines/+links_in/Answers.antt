use Rattle.std.proofs.Common.{◌≡◌, max, arith, rules}
use Rattle.tk_numbers.specs.Charges.{routines_in}
use Rattle.tk_numbers.proofs.Before.{links_done}
use Rattle.std.proofs.lemmas.Result.{err_from_is_err_and}
use Rattle.tk_numbers.proofs.SmallSections.{links-step, links-least}
use Rattle.tk_numbers.proofs.routines.+links_in.Goals as goal

pub returns-after-loop-part-clause-exact : goal.returns-after-loop-part-clause-exact
returns-after-loop-part-clause-exact t c =
    let e = links_done (routines_in c.args.before.now) c.as_slice-parts.result.now c.in-Sequence.to c.loop-part.part-index c.loop-part.most (omega arith) c.loop-part.invariant in
    cc

pub loop-part-preserved : goal.loop-part-preserved
loop-part-preserved t c =
    let n : c.max-most.result ≡ max c.loop-part.most c.in_ok-here-in-Sequence.here = search rules in
    links-step (routines_in c.args.before.now) c.as_slice-parts.result.now c.loop-part.part-index c.part-item.result c.loop-part-test.true c.part-item.is
    c.loop-part.most c.in_ok-here-in-Sequence.here c.max-most.result c.in_ok-here-in-Sequence.ensures.exact n c.loop-part.invariant

pub returns-in_err-here-in-Sequence-clause-fits : goal.returns-in_err-here-in-Sequence-clause-fits
returns-in_err-here-in-Sequence-clause-fits t c = λ h.
    let p = err_from_is_err_and c.from_residual.result c.from_residual.ensures.1 in
    let l = links-least (routines_in c.args.before.now) c.as_slice-parts.result.now c.loop-part.part-index c.part-item.result c.loop-part-test.true c.part-item.is
    c.args.region.now _ c.in-Sequence.to c.loop-part.most c.in-Sequence.is c.as_slice-parts.ensures c.loop-part.invariant in
    rw (p.1, p.2) (c.in_err-here-in-Sequence.ensures.fits (omega (arith, l, h)))
