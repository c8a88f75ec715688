use Rattle.std.proofs.lemmas.Result.{err_from_is_err_and}
use Rattle.pt_base.proofs.Loop.{goes_on, ends_as}
use Rattle.tk_cert.specs.Reading.{line_at}
use Rattle.tk_cert.proofs.line.line_list.Goals as goal

pub returns-in_err-value : goal.returns-in_err-value
returns-in_err-value c =
    let p = err_from_is_err_and c.from_residual.result c.from_residual.ensures.1 in
    rw (p.1, p.2) (ends_as line_at c.loop.values.items c.args.count c.loop.counter c.loop.rest.now c.in_err-value.field-0.0 _ c.loop-test.true c.in_err-value.ensures c.loop.invariant)

pub loop-preserved : goal.loop-preserved
loop-preserved c =
    rw c.in_ok-push.ensures.items (goes_on line_at c.loop.values.items c.args.count c.loop.counter c.loop.rest.now c.in_ok-value.value c.in_ok-value.after.now _ c.loop-test.true c.in_ok-value.ensures c.loop.invariant)
