use Rattle.std.proofs.Common.{List, [], rules, subst, sym}
use Rattle.std.proofs.lemmas.Result.{err_from_is_err_and}
use Rattle.std.specs.List.{AllByRecursion}
use Rattle.tk_paths.specs.declared.Section.{Section as KeptSection}
use Rattle.tk_paths.specs.Trees.{read_sections}
use Rattle.tk_numbers.proofs.Before.{in_more}
use Rattle.tk_numbers.proofs.SmallSections.{section-here}
use Rattle.tk_plans.specs.Small.{HasSmallWaysIn}
use Rattle.tk_plans.specs.Ways.{crossing}
use Rattle.tk_plans.proofs.PieceLaws.{section_step}
use Rattle.tk_plans.proofs.pieces.pieces_of.Goals as goal

pub loop-i-preserved : goal.loop-i-preserved
loop-i-preserved c = record {
  ways = search (rules, in_more);
  pieces = section_step (crossing c.args.image.now c.args.costs.now) c.as_slice-sections.result.now c.loop-i.i c.index-sections-i.result _ _ _ c.loop-i-test.true c.index-sections-i.is c.in_ok-section_pieces.ensures.exact c.loop-i.invariant.pieces;
}

pub returns-in_err-section_pieces-clause-fits : goal.returns-in_err-section_pieces-clause-fits
returns-in_err-section_pieces-clause-fits c = λ h.
    let p = err_from_is_err_and c.from_residual.result c.from_residual.ensures.1 in
    let P : List KeptSection → Type 0 = λ xs. AllByRecursion (HasSmallWaysIn c.args.image.now c.args.costs.now) (read_sections [] xs) in
    rw (p.1, p.2) (c.in_err-section_pieces.ensures.fits
    (section-here (HasSmallWaysIn c.args.image.now c.args.costs.now) c.as_slice-sections.result.now c.loop-i.i c.index-sections-i.result c.loop-i-test.true c.index-sections-i.is
    (subst P (sym c.as_slice-sections.ensures.value) h)))

pub returns-in_err-add_way-clause-fits : goal.returns-in_err-add_way-clause-fits
returns-in_err-add_way-clause-fits c = λ h.
    let p = err_from_is_err_and c.from_residual-in_err-add_way.result c.from_residual-in_err-add_way.ensures.1 in
    let P : List KeptSection → Type 0 = λ xs. AllByRecursion (HasSmallWaysIn c.args.image.now c.args.costs.now) (read_sections [] xs) in
    rw (p.1, p.2) (c.in_err-add_way.ensures.fits
    (section-here (HasSmallWaysIn c.args.image.now c.args.costs.now) c.as_slice-sections.result.now c.loop-i.i c.index-sections-i-in-loop-i.result c.loop-i-test.true c.index-sections-i-in-loop-i.is
    (subst P (sym c.as_slice-sections.ensures.value) h)))
