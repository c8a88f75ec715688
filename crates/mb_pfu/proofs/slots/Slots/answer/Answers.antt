use Rattle.mb_pfu.specs.Rows.{answer_row, due}
use Rattle.mb_pfu.specs.Tree.{answer_at, test_answered}
use Rattle.mb_pfu.proofs.Moves.{acts-answer}
use Rattle.mb_pfu.proofs.Sound.{sound-answer}
use Rattle.mb_pfu.proofs.Trees.{changed, test-some, no-test, due-row, spells, right-rows, sound-of}
use Rattle.mb_pfu.proofs.slots.Slots.answer.Goals as goal

pub unreachable-requires : goal.unreachable-requires
unreachable-requires c = no-test _ _ _ c.self.invariant c.self.view_is c.requires.due c.deref.ensures.0 c.in-None.ensures.report

pub answer_at-requires-clause-due : goal.answer_at-requires-clause-due
answer_at-requires-clause-due c = due-row c.in-Some.i _ _ c.deref.ensures.0 c.in-Some.ensures.found

pub invariant_of-self : goal.invariant_of-self
invariant_of-self c =
    right-rows (test_answered c.args.fired c.args.self.now) _
    (changed due (answer_row c.args.fired) (answer_at c.args.fired) (acts-answer c.args.fired) c.in-Some.i _ _ _ _ c.self.invariant c.self.view_is (test-some c.args.self.now c.requires.due) c.deref.ensures.0 c.in-Some.ensures.found c.answer_at.ensures)
    (sound-answer c.args.fired _ (sound-of _ _ c.self.invariant c.self.view_is))

pub returns : goal.returns
returns c =
    spells _ _ (changed due (answer_row c.args.fired) (answer_at c.args.fired) (acts-answer c.args.fired) c.in-Some.i _ _ _ _ c.self.invariant c.self.view_is (test-some c.args.self.now c.requires.due) c.deref.ensures.0 c.in-Some.ensures.found c.answer_at.ensures)
