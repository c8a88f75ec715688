use Rattle.std.proofs.Common.{arith}
use Rattle.std.proofs.lemmas.Result.{err_from_is_err_and}
use Rattle.tk_paths.proofs.Later.{none_left, one_known}
use Rattle.tk_paths.proofs.SmallLaws.{slots-behind, slot-waits, slot-pause, slot-end}
use Rattle.tk_paths.proofs.slots.+set_slots.Goals as goal

pub returns-then-count-eq0-clause-exact : goal.returns-then-count-eq0-clause-exact
returns-then-count-eq0-clause-exact t c =
    none_left c.args.image.now c.args.costs.now c.args.lines.now c.args.slot c.args.count c.args.bounds.now.items (omega arith) c.requires.unknown

pub returns-clause-exact : goal.returns-clause-exact
returns-clause-exact t c =
    one_known c.args.image.now c.args.costs.now c.args.lines.now c.args.slot c.args.count c.set_slots.new.bounds.items c.as_slice-known.result.now
    c.in_ok-pause.pause c.in_ok-end.end (omega arith) c.as_slice-known.ensures.value c.in_ok-set_slots.ensures.exact c.in_ok-pause.ensures.exact c.in_ok-end.ensures.exact

pub returns-in_err-set_slots-clause-fits : goal.returns-in_err-set_slots-clause-fits
returns-in_err-set_slots-clause-fits t c = λ h.
    let p = err_from_is_err_and c.from_residual.result c.from_residual.ensures.1 in
    rw (p.1, p.2) (c.in_err-set_slots.ensures.fits (slots-behind c.args.image.now c.args.costs.now c.args.lines.now c.args.slot c.args.count (omega arith) h))

pub returns-in_err-pause-clause-fits : goal.returns-in_err-pause-clause-fits
returns-in_err-pause-clause-fits t c = λ h.
    let p = err_from_is_err_and c.from_residual-in_err-pause.result c.from_residual-in_err-pause.ensures.1 in
    rw (p.1, p.2) (c.in_err-pause.ensures.fits
    (slot-waits c.args.image.now c.args.costs.now c.args.lines.now c.args.slot c.args.count c.set_slots.new.bounds.items c.as_slice-known.result.now (omega arith) c.as_slice-known.ensures.value c.in_ok-set_slots.ensures.exact h)
    (slot-pause c.args.image.now c.args.costs.now c.args.lines.now c.args.slot c.args.count c.set_slots.new.bounds.items c.as_slice-known.result.now (omega arith) c.as_slice-known.ensures.value c.in_ok-set_slots.ensures.exact h))

pub returns-in_err-end-clause-fits : goal.returns-in_err-end-clause-fits
returns-in_err-end-clause-fits t c = λ h.
    let p = err_from_is_err_and c.from_residual-in_err-end.result c.from_residual-in_err-end.ensures.1 in
    rw (p.1, p.2) (c.in_err-end.ensures.fits
    (slot-waits c.args.image.now c.args.costs.now c.args.lines.now c.args.slot c.args.count c.set_slots.new.bounds.items c.as_slice-known.result.now (omega arith) c.as_slice-known.ensures.value c.in_ok-set_slots.ensures.exact h)
    (slot-end c.args.image.now c.args.costs.now c.args.lines.now c.args.slot c.args.count c.set_slots.new.bounds.items c.as_slice-known.result.now (omega arith) c.as_slice-known.ensures.value c.in_ok-set_slots.ensures.exact h))
