use Rattle.std.proofs.Common.{◌≡◌, ◌++◌, [], drop, map, ap, sym, ◌∙◌, arith}
use Rattle.std.proofs.lemmas.Result.{err_from_is_err_and}
use Rattle.std.proofs.lemmas.List.{append-nil, drop_all}
use Rattle.tk_paths.specs.Choices.{pieces}
use Rattle.tk_paths.specs.Trees.{regions_from, read_region}
use Rattle.tk_numbers.specs.Charges.{routines_in}
use Rattle.tk_numbers.proofs.Values.{parts_read, choice_read}
use Rattle.tk_numbers.proofs.Rooms.{part_least}
use Rattle.tk_plans.specs.Ways.{crossing}
use Rattle.tk_plans.proofs.PieceLaws.{pieces_anywhere, both_added}
use Rattle.tk_plans.proofs.pieces.+region_pieces.Goals as goal

pub returns-after-loop-part-clause-exact : goal.returns-after-loop-part-clause-exact
returns-after-loop-part-clause-exact t c =
    let R = routines_in c.args.before.now in
    let f = crossing c.args.image.now c.args.costs.now in
    let l = c.loop-part in
    let parts = c.as_slice-parts.result.now in
    let old = c.args.pieces.now.items in
    let none : drop l.part-index parts ≡ [] = drop_all l.part-index parts c.loop-part-test.false in
    let is = parts_read R c.args.region.now _ parts _ c.in-Sequence.is c.as_slice-parts.ensures in
    sym (append-nil l.pieces.items) ∙ ap (λ ps. l.pieces.items ++ map f (pieces (regions_from 0 (map (read_region R) ps)))) (sym none) ∙ l.invariant
    ∙ ap (λ w. old ++ map f w) (pieces_anywhere (map (read_region R) parts) 0 _ ∙ ap pieces (sym is))

pub returns-in_ok-region_pieces-in-Choice-2-clause-exact : goal.returns-in_ok-region_pieces-in-Choice-2-clause-exact
returns-in_ok-region_pieces-in-Choice-2-clause-exact t c =
    let R = routines_in c.args.before.now in
    let f = crossing c.args.image.now c.args.costs.now in
    let old = c.args.pieces.now.items in
    let first = c.get.result.now in
    let second = c.get-in-Choice.result.now in
    let is = choice_read R c.args.region.now _ _ first second _ _ _ c.in-Choice.is c.get.ensures c.get-in-Choice.ensures in
    both_added f (pieces (read_region R first)) (pieces (read_region R second)) old _ _ c.in_ok-region_pieces-in-Choice.ensures.exact
    c.in_ok-region_pieces-in-Choice-2.ensures.exact
    ∙ ap (λ r. old ++ map f (pieces r)) (sym is)

pub returns-in_err-region_pieces-in-Sequence-clause-fits : goal.returns-in_err-region_pieces-in-Sequence-clause-fits
returns-in_err-region_pieces-in-Sequence-clause-fits t c = λ h.
    let p = err_from_is_err_and c.from_residual.result c.from_residual.ensures.1 in
    let l = part_least c.args.image.now c.args.costs.now (routines_in c.args.before.now) c.args.region.now _ c.as_slice-parts.result.now _ c.in-Sequence.is c.as_slice-parts.ensures
    c.loop-part.part-index c.part-item.result c.loop-part-test.true c.part-item.is in
    rw (p.1, p.2) (c.in_err-region_pieces-in-Sequence.ensures.fits (omega (arith, l, h)))
