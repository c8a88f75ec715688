use Rattle.std.proofs.Common.{Some, None}
use Rattle.std.proofs.lemmas.Result.{err_from_is_err_and}
use Rattle.pt_base.proofs.Loop.{goes_on, ends, form_of, seen_of}
use Rattle.tk_cert.specs.Reading.{weight_at}
use Rattle.tk_cert.proofs.lists.weight_list.Goals as goal

pub returns-in_err-value : goal.returns-in_err-value
returns-in_err-value c =
    let p = err_from_is_err_and c.from_residual.result c.from_residual.ensures.1 in
    let o = c.in_err-value.ensures in
    let none = seen_of _ _ None _ c.weight.ensures o.ok_part in
    rw (p.1, p.2, form_of c.weight.result _ o.value o.ok_part) (ends weight_at c.loop.values.items c.args.count c.loop.counter c.loop.rest.now _ c.loop-test.true none c.loop.invariant)

pub loop-preserved : goal.loop-preserved
loop-preserved c =
    let some = seen_of _ _ (Some (c.in_ok-value.value, c.in_ok-value.after)) _ c.weight.ensures c.in_ok-value.ensures.ok_part in
    rw c.in_ok-push.ensures.items (goes_on weight_at c.loop.values.items c.args.count c.loop.counter c.loop.rest.now c.in_ok-value.value c.in_ok-value.after.now _ c.loop-test.true some c.loop.invariant)
