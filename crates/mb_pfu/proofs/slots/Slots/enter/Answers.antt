use Rattle.mb_pfu.specs.Rows.{watches_row, numbered, with_last}
use Rattle.mb_pfu.specs.Tree.{watches_at, entered}
use Rattle.mb_pfu.proofs.Moves.{acts-watches}
use Rattle.mb_pfu.proofs.Sound.{sound-watches}
use Rattle.mb_pfu.proofs.Trees.{changed, ready-some, spells, right-rows, sound-of}
use Rattle.mb_pfu.proofs.slots.Slots.enter.Goals as goal

pub invariant_of-self : goal.invariant_of-self
invariant_of-self c =
    right-rows (entered c.args.s c.args.watch c.args.self.now) _
    (changed (numbered c.args.s) (watches_row (with_last c.args.watch)) (watches_at (with_last c.args.watch)) (acts-watches (with_last c.args.watch)) c.in-Some.i _ _ _ _ c.self.invariant c.self.view_is (ready-some c.args.s _ c.requires.ready) c.deref.ensures.0 c.in-Some.ensures.found c.enter_at.ensures)
    (sound-watches (numbered c.args.s) (with_last c.args.watch) _ (sound-of _ _ c.self.invariant c.self.view_is))

pub returns : goal.returns
returns c =
    spells _ _ (changed (numbered c.args.s) (watches_row (with_last c.args.watch)) (watches_at (with_last c.args.watch)) (acts-watches (with_last c.args.watch)) c.in-Some.i _ _ _ _ c.self.invariant c.self.view_is (ready-some c.args.s _ c.requires.ready) c.deref.ensures.0 c.in-Some.ensures.found c.enter_at.ensures)
