use Rattle.std.proofs.Common.{◌≡◌, ◌++◌, [], drop, map, ap, sym, ◌∙◌, subst}
use Rattle.std.proofs.lemmas.Result.{err_from_is_err_and}
use Rattle.std.proofs.lemmas.List.{append-nil, drop_all}
use Rattle.tk_paths.specs.Choices.{code_pieces}
use Rattle.tk_paths.specs.Trees.{codes_from, read_code}
use Rattle.tk_numbers.specs.Charges.{routines_in}
use Rattle.tk_plans.specs.Ways.{crossing}
use Rattle.tk_paths.specs.Codes.{Code}
use Rattle.tk_plans.specs.Small.{HasSmallWays}
use Rattle.tk_plans.proofs.PieceLaws.{code_small, codes_anywhere, codes_read, either_read, both_added}
use Rattle.tk_plans.proofs.pieces.+code_pieces.Goals as goal

pub returns-after-loop-part-clause-exact : goal.returns-after-loop-part-clause-exact
returns-after-loop-part-clause-exact t c =
    let R = routines_in c.args.before.now in
    let f = crossing c.args.image.now c.args.costs.now in
    let l = c.loop-part in
    let codes = c.as_slice-codes.result.now in
    let old = c.args.pieces.now.items in
    let none : drop l.part-index codes ≡ [] = drop_all l.part-index codes c.loop-part-test.false in
    let is = codes_read R c.args.code.now _ codes _ c.in-Sequence.is c.as_slice-codes.ensures in
    sym (append-nil l.pieces.items) ∙ ap (λ ps. l.pieces.items ++ map f (code_pieces (codes_from 0 (map (read_code R) ps)))) (sym none) ∙ l.invariant
    ∙ ap (λ w. old ++ map f w) (codes_anywhere (map (read_code R) codes) 0 _ ∙ ap code_pieces (sym is))

pub returns-in_ok-code_pieces-in-Either-2-clause-exact : goal.returns-in_ok-code_pieces-in-Either-2-clause-exact
returns-in_ok-code_pieces-in-Either-2-clause-exact t c =
    let R = routines_in c.args.before.now in
    let f = crossing c.args.image.now c.args.costs.now in
    let old = c.args.pieces.now.items in
    let first = c.get.result.now in
    let second = c.get-in-Either.result.now in
    let is = either_read R c.args.code.now _ _ first second _ _ _ c.in-Either.is c.get.ensures c.get-in-Either.ensures in
    both_added f (code_pieces (read_code R first)) (code_pieces (read_code R second)) old _ _ c.in_ok-code_pieces-in-Either.ensures.exact
    c.in_ok-code_pieces-in-Either-2.ensures.exact
    ∙ ap (λ r. old ++ map f (code_pieces r)) (sym is)

pub returns-in_err-code_pieces-in-Sequence-clause-fits : goal.returns-in_err-code_pieces-in-Sequence-clause-fits
returns-in_err-code_pieces-in-Sequence-clause-fits t c = λ h.
    let p = err_from_is_err_and c.from_residual.result c.from_residual.ensures.1 in
    let R = routines_in c.args.before.now in
    let codes = c.as_slice-codes.result.now in
    let is = codes_read R c.args.code.now _ codes _ c.in-Sequence.is c.as_slice-codes.ensures in
    let P : Code → Type 0 = λ d. HasSmallWays c.args.image.now c.args.costs.now d in
    rw (p.1, p.2) (c.in_err-code_pieces-in-Sequence.ensures.fits
    (code_small c.args.image.now c.args.costs.now (read_code R) _ codes c.loop-part.part-index c.part-item.result c.loop-part-test.true c.part-item.is (subst P is h)))
