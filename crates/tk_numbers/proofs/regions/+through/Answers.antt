use Rattle.std.proofs.Common.{◌≡◌, ◌+◌, ℕ, IfOk, [], drop, map, ap, sym, subst, ◌∙◌, arith}
use Rattle.std.proofs.lemmas.List.{drop_all}
use Rattle.tk_paths.specs.Regions.{through}
use Rattle.tk_paths.specs.Trees.{regions_from, read_region}
use Rattle.tk_numbers.specs.Charges.{routines_in}
use Rattle.tk_numbers.proofs.Values.{parts_read, counted_read, repeated_read}
use Rattle.tk_numbers.specs.Charges.{counted_cost, repeated_cost}
use Rattle.tk_numbers.proofs.Rooms.{part_least, parts_least, parts_step, counted_least, repeated_least}
use Rattle.tk_numbers.proofs.Lines.{through_anywhere}
use Rattle.std.proofs.lemmas.Result.{err_from_is_err_and}
use Rattle.tk_numbers.proofs.regions.+through.Goals as goal

pub returns-after-loop-part-clause-exact : goal.returns-after-loop-part-clause-exact
returns-after-loop-part-clause-exact t c =
    let R = routines_in c.args.before.now in
    let parts = c.as_slice-parts.result.now in
    let l = c.loop-part in
    let none : drop l.part-index parts ≡ [] = drop_all l.part-index parts c.loop-part-test.false in
    let more : l.total ≡ l.total + 0 = omega arith in
    let is = parts_read R c.args.region.now _ parts _ c.in-Sequence.is c.as_slice-parts.ensures in
    more ∙ ap (λ ps. l.total + through c.args.image.now c.args.costs.now (regions_from 0 (map (read_region R) ps))) (sym none) ∙ l.invariant
    ∙ through_anywhere c.args.image.now c.args.costs.now 0 _ (map (read_region R) parts) ∙ ap (through c.args.image.now c.args.costs.now) (sym is)

pub loop-part-preserved : goal.loop-part-preserved
loop-part-preserved t c =
    let l = c.loop-part in
    parts_step c.args.image.now c.args.costs.now (routines_in c.args.before.now) c.args.region.now _ c.as_slice-parts.result.now _ c.in-Sequence.is c.as_slice-parts.ensures
    l.part-index c.part-item.result l.total c.in_ok-through-in-Sequence.field-0 c.in_ok-total-in-Sequence.total c.loop-part-test.true c.part-item.is
    c.in_ok-through-in-Sequence.ensures.exact c.in_ok-total-in-Sequence.ensures.exact l.invariant

pub returns-in_err-through-in-Sequence-clause-fits : goal.returns-in_err-through-in-Sequence-clause-fits
returns-in_err-through-in-Sequence-clause-fits t c = λ h.
    let p = err_from_is_err_and c.from_residual.result c.from_residual.ensures.1 in
    let l = part_least c.args.image.now c.args.costs.now (routines_in c.args.before.now) c.args.region.now _ c.as_slice-parts.result.now _ c.in-Sequence.is c.as_slice-parts.ensures
    c.loop-part.part-index c.part-item.result c.loop-part-test.true c.part-item.is in
    rw (p.1, p.2) (c.in_err-through-in-Sequence.ensures.fits (omega (arith, l, h)))

pub returns-in_err-total-in-Sequence-clause-fits : goal.returns-in_err-total-in-Sequence-clause-fits
returns-in_err-total-in-Sequence-clause-fits t c = λ h.
    let p = err_from_is_err_and c.from_residual-in_err-total-in-Sequence.result c.from_residual-in_err-total-in-Sequence.ensures.1 in
    let l = parts_least c.args.image.now c.args.costs.now (routines_in c.args.before.now) c.args.region.now _ c.as_slice-parts.result.now _ c.in-Sequence.is c.as_slice-parts.ensures
    c.loop-part.part-index c.part-item.result c.loop-part.total c.in_ok-through-in-Sequence.field-0 c.loop-part-test.true c.part-item.is
    c.in_ok-through-in-Sequence.ensures.exact c.loop-part.invariant in
    rw (p.1, p.2) (c.in_err-total-in-Sequence.ensures.fits (omega (arith, l, h)))

pub returns-in_err-inner-in-Counted-clause-fits : goal.returns-in_err-inner-in-Counted-clause-fits
returns-in_err-inner-in-Counted-clause-fits t c = λ h.
    let p = err_from_is_err_and c.from_residual-in_err-inner-in-Counted.result c.from_residual-in_err-inner-in-Counted.ensures.1 in
    let R = routines_in c.args.before.now in
    let body = c.get-body.result.now in
    let e = c.in-Counted in
    let is = ap (through c.args.image.now c.args.costs.now) (counted_read R c.args.region.now _ body _ _ _ _ _ e.is c.get-body.ensures) in
    let l = counted_least c.args.image.now c.args.costs.now e.from e.turns e.count e.branch (read_region R body) e.drop in
    rw (p.1, p.2) (c.in_err-inner-in-Counted.ensures.fits (omega (arith, l, is, h)))

pub returns-in_err-inner-in-Repeated-clause-fits : goal.returns-in_err-inner-in-Repeated-clause-fits
returns-in_err-inner-in-Repeated-clause-fits t c = λ h.
    let p = err_from_is_err_and c.from_residual-in_err-inner-in-Repeated.result c.from_residual-in_err-inner-in-Repeated.ensures.1 in
    let R = routines_in c.args.before.now in
    let body = c.get-body-in-Repeated.result.now in
    let e = c.in-Repeated in
    let is = ap (through c.args.image.now c.args.costs.now) (repeated_read R c.args.region.now _ body _ _ _ e.is c.get-body-in-Repeated.ensures) in
    let l = repeated_least c.args.image.now c.args.costs.now e.from e.turns (read_region R body) e.to in
    rw (p.1, p.2) (c.in_err-inner-in-Repeated.ensures.fits (omega (arith, l, is, h)))

pub returns-in_ok-inner-in-Counted-clause-exact : goal.returns-in_ok-inner-in-Counted-clause-exact
returns-in_ok-inner-in-Counted-clause-exact t c =
    let I = c.args.image.now in
    let K = c.args.costs.now in
    let R = routines_in c.args.before.now in
    let body = c.get-body.result.now in
    let e = c.in-Counted in
    let P : ℕ → Type 0 = λ m. IfOk c.counted_cost.result (λ n. n ≡ m) in
    subst P
    (ap (counted_cost I K e.from e.turns e.count e.branch (read_region R body)) c.in_ok-inner-in-Counted.ensures.exact
    ∙ sym (ap (through I K) (counted_read R c.args.region.now _ body _ _ _ _ _ e.is c.get-body.ensures)))
    c.counted_cost.ensures.exact

pub returns-in_ok-inner-in-Repeated-clause-exact : goal.returns-in_ok-inner-in-Repeated-clause-exact
returns-in_ok-inner-in-Repeated-clause-exact t c =
    let I = c.args.image.now in
    let K = c.args.costs.now in
    let R = routines_in c.args.before.now in
    let body = c.get-body-in-Repeated.result.now in
    let e = c.in-Repeated in
    let P : ℕ → Type 0 = λ m. IfOk c.repeated_cost.result (λ n. n ≡ m) in
    subst P
    (ap (repeated_cost I K e.from e.turns (read_region R body)) c.in_ok-inner-in-Repeated.ensures.exact
    ∙ sym (ap (through I K) (repeated_read R c.args.region.now _ body _ _ _ e.is c.get-body-in-Repeated.ensures)))
    c.repeated_cost.ensures.exact
