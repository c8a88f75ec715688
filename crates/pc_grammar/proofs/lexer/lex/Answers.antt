use Rattle.std.proofs.Common.{◌≡◌, ◌+◌, length, drop, refl, sym, ap, subst, ◌∙◌, arith}
use Rattle.pc_grammar.specs.declared.fronts.Front.TheVariants.{Blank, Piece, Fault}
use Rattle.pc_grammar.specs.Lexing.{whole, Lexes, InOrder, AreSlices}
use Rattle.pc_grammar.proofs.Cuts.{CutSoFar, front_is, cut_blank, cut_piece, cut_fault, cut_ends, known}
use Rattle.pc_grammar.proofs.lexer.lex.Goals.{in-Blank, in-Piece+in_ok-push-in-Piece}
use Rattle.pc_grammar.proofs.lexer.lex.Goals as goal

pub returns-in-Fault-clause-refused : goal.returns-in-Fault-clause-refused
returns-in-Fault-clause-refused c =
    cut_fault c.args.text.now c.cutting.tokens.items c.cutting.at c.look-front.result.1 _ c.cutting.rest.now c.in-Fault.rule c.cutting.invariant c.cutting-test.true
    (front_is c.cutting.rest.now c.look-front.result (Fault c.in-Fault.rule) c.look-front.ensures.value c.in-Fault.is) refl

pub cutting-preserved : goal.cutting-preserved
cutting-preserved c =
    let n = c.look-front.result.1 in
    let rest = c.cutting.rest.now in
    let text = c.args.text.now in
    let goes : CutSoFar text c.match-front.tokens.items (c.cutting.at + n) (drop n rest) =
    elim c.match-front.branch [
      | in-Blank w ↦ subst (λ x. CutSoFar text x (c.cutting.at + n) (drop n rest)) (sym (ap (λ v. v.items) w.tokens-is))
          (cut_blank text c.cutting.tokens.items c.cutting.at n (c.cutting.at + n) rest c.cutting.invariant c.cutting-test.true c.look-front.ensures.within
          (front_is rest c.look-front.result Blank c.look-front.ensures.value w.in-Blank.is) refl)
      | in-Piece+in_ok-push-in-Piece w ↦
          cut_piece text c.cutting.tokens.items c.match-front.tokens.items c.cutting.at n (c.cutting.at + n) rest w.in-Piece.sort c.cutting.invariant c.cutting-test.true c.look-front.ensures.within
          (front_is rest c.look-front.result (Piece w.in-Piece.sort) c.look-front.ensures.value w.in-Piece.is) refl (ap (λ v. v.items) w.tokens-is ∙ w.in_ok-push-in-Piece.ensures.items)
    ] in
    subst (λ x. CutSoFar text c.match-front.tokens.items (c.cutting.at + n) x) (sym c.skip-rest.ensures) goes

pub returns-clause-tokens : goal.returns-clause-tokens
returns-clause-tokens c = subst (λ x. Lexes 0 c.args.text.now x whole) (sym c.of.ensures) (cut_ends c.args.text.now c.cutting.tokens.items c.cutting.at c.cutting.rest.now c.cutting.invariant c.cutting-test.false)

pub returns-clause-in_order : goal.returns-clause-in_order
returns-clause-in_order c =
    let counted : 0 + length c.args.text.now ≡ length c.args.text.now = omega arith in
    let end : length c.args.text.now ≡ c.cutting.at = omega (arith, c.cutting.invariant.counted, c.cutting-test.false) in
    let k = known (cut_ends c.args.text.now c.cutting.tokens.items c.cutting.at c.cutting.rest.now c.cutting.invariant c.cutting-test.false) c.args.text.now refl counted in
    subst (λ x. InOrder 0 x c.cutting.at) (sym c.of.ensures) (subst (λ x. InOrder 0 c.cutting.tokens.items x) end k.in_order)

pub returns-clause-slices : goal.returns-clause-slices
returns-clause-slices c =
    let counted : 0 + length c.args.text.now ≡ length c.args.text.now = omega arith in
    let k = known (cut_ends c.args.text.now c.cutting.tokens.items c.cutting.at c.cutting.rest.now c.cutting.invariant c.cutting-test.false) c.args.text.now refl counted in
    subst (λ x. AreSlices c.args.text.now x) (sym c.of.ensures) k.slices
