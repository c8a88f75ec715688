use Rattle.std.proofs.Common.{◌≡◌, ◌++◌, [], drop, map, ap, sym, ◌∙◌, arith}
use Rattle.std.proofs.lemmas.Result.{err_from_is_err_and}
use Rattle.std.proofs.lemmas.List.{append-nil, drop_all}
use Rattle.tk_paths.specs.Regions.{dearest_way, through}
use Rattle.tk_paths.specs.Trees.{regions_from, read_region}
use Rattle.tk_numbers.specs.Charges.{routines_in}
use Rattle.tk_numbers.proofs.Values.{parts_read, choice_read, counted_read, repeated_read}
use Rattle.tk_numbers.proofs.Rooms.{part_least, counted_least, repeated_least}
use Rattle.tk_plans.proofs.WayLaws.{ways_anywhere, untaken_way}
use Rattle.tk_plans.proofs.ways.+push_way.Goals as goal

pub returns-after-loop-part-clause-exact : goal.returns-after-loop-part-clause-exact
returns-after-loop-part-clause-exact t c =
    let R = routines_in c.args.before.now in
    let I = c.args.image.now in
    let K = c.args.costs.now in
    let l = c.loop-part in
    let parts = c.as_slice-parts.result.now in
    let old = c.args.choices.now.items in
    let none : drop l.part-index parts ≡ [] = drop_all l.part-index parts c.loop-part-test.false in
    let is = parts_read R c.args.region.now _ parts _ c.in-Sequence.is c.as_slice-parts.ensures in
    sym (append-nil l.choices.items) ∙ ap (λ ps. l.choices.items ++ dearest_way I K (regions_from 0 (map (read_region R) ps))) (sym none) ∙ l.invariant
    ∙ ap (λ w. old ++ w) (ways_anywhere I K (map (read_region R) parts) 0 _ ∙ ap (dearest_way I K) (sym is))

pub returns-in_ok-push_way-in-Choice-2-clause-exact : goal.returns-in_ok-push_way-in-Choice-2-clause-exact
returns-in_ok-push_way-in-Choice-2-clause-exact t c =
    let R = routines_in c.args.before.now in
    let first = c.get-first.result.now in
    let second = c.get-second.result.now in
    let is = choice_read R c.args.region.now _ _ first second _ _ _ c.in-Choice.is c.get-first.ensures c.get-second.ensures in
    untaken_way c.args.image.now c.args.costs.now (read_region R c.args.region.now) c.args.choices.now.items c.push.new.self.items
    c.push_way-in-Choice.new.choices.items (read_region R first) (read_region R second) _ _ _ c.in_ok-is_taken-in-Choice.is_taken is
    c.in_ok-is_taken-in-Choice.ensures.exact c.if-is_taken.false c.in_ok-push-in-Choice.ensures.items c.in_ok-push_way-in-Choice-2.ensures.exact

pub returns-in_err-push_way-in-Sequence-clause-fits : goal.returns-in_err-push_way-in-Sequence-clause-fits
returns-in_err-push_way-in-Sequence-clause-fits t c = λ h.
    let p = err_from_is_err_and c.from_residual.result c.from_residual.ensures.1 in
    let l = part_least c.args.image.now c.args.costs.now (routines_in c.args.before.now) c.args.region.now _ c.as_slice-parts.result.now _ c.in-Sequence.is c.as_slice-parts.ensures
    c.loop-part.part-index c.part-item.result c.loop-part-test.true c.part-item.is in
    rw (p.1, p.2) (c.in_err-push_way-in-Sequence.ensures.fits (omega (arith, l, h)))

pub returns-in_err-left-in-Counted-clause-fits : goal.returns-in_err-left-in-Counted-clause-fits
returns-in_err-left-in-Counted-clause-fits t c = λ h.
    let p = err_from_is_err_and c.from_residual-in_err-left-in-Counted.result c.from_residual-in_err-left-in-Counted.ensures.1 in
    let I = c.args.image.now in
    let K = c.args.costs.now in
    let R = routines_in c.args.before.now in
    let body = c.get-body.result.now in
    let e = c.in-Counted in
    let is = ap (through I K) (counted_read R c.args.region.now _ body _ _ _ _ _ e.is c.get-body.ensures) in
    let l = counted_least I K e.from e.turns e.count e.branch (read_region R body) e.drop in
    rw (p.1, p.2) (c.in_err-left-in-Counted.ensures.fits (omega (arith, l, is, h)) (omega (arith, is, h)))

pub returns-in_err-push_way-in-Repeated-clause-fits : goal.returns-in_err-push_way-in-Repeated-clause-fits
returns-in_err-push_way-in-Repeated-clause-fits t c = λ h.
    let p = err_from_is_err_and c.from_residual-in_err-push_way-in-Repeated.result c.from_residual-in_err-push_way-in-Repeated.ensures.1 in
    let R = routines_in c.args.before.now in
    let body = c.get-body-in-Repeated.result.now in
    let e = c.in-Repeated in
    let is = ap (through c.args.image.now c.args.costs.now) (repeated_read R c.args.region.now _ body _ _ _ e.is c.get-body-in-Repeated.ensures) in
    let l = repeated_least c.args.image.now c.args.costs.now e.from e.turns (read_region R body) e.to in
    rw (p.1, p.2) (c.in_err-push_way-in-Repeated.ensures.fits (omega (arith, l, is, h)))
