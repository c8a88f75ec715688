use Rattle.mb_pfu.specs.Rows.{watches_row, numbered, without_last}
use Rattle.mb_pfu.specs.Tree.{watches_at, left}
use Rattle.mb_pfu.proofs.Moves.{acts-watches}
use Rattle.mb_pfu.proofs.Sound.{sound-watches}
use Rattle.mb_pfu.proofs.Trees.{changed, ready-some, spells, right-rows, sound-of}
use Rattle.mb_pfu.proofs.slots.Slots.leave.Goals as goal

pub invariant_of-self : goal.invariant_of-self
invariant_of-self c =
    right-rows (left c.args.s c.args.self.now) _
    (changed (numbered c.args.s) (watches_row without_last) (watches_at without_last) (acts-watches without_last) c.in-Some.i _ _ _ _ c.self.invariant c.self.view_is (ready-some c.args.s _ c.requires.ready) c.deref.ensures.0 c.in-Some.ensures.found c.leave_at.ensures)
    (sound-watches (numbered c.args.s) without_last _ (sound-of _ _ c.self.invariant c.self.view_is))

pub returns : goal.returns
returns c =
    spells _ _ (changed (numbered c.args.s) (watches_row without_last) (watches_at without_last) (acts-watches without_last) c.in-Some.i _ _ _ _ c.self.invariant c.self.view_is (ready-some c.args.s _ c.requires.ready) c.deref.ensures.0 c.in-Some.ensures.found c.leave_at.ensures)
