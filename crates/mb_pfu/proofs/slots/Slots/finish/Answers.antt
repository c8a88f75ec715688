use Rattle.mb_pfu.specs.Rows.{finish_row, settle_row, numbered}
use Rattle.mb_pfu.specs.Tree.{finish_at, settle, finished}
use Rattle.mb_pfu.proofs.Moves.{acts-settle, acts-finish}
use Rattle.mb_pfu.proofs.Sound.{sound-finish}
use Rattle.mb_pfu.proofs.Trees.{moved, ready-some, spells, right-rows, sound-of}
use Rattle.mb_pfu.proofs.slots.Slots.finish.Goals as goal

pub invariant_of-self : goal.invariant_of-self
invariant_of-self c =
    right-rows (finished c.args.s c.args.self.now) _
    (moved (numbered c.args.s) finish_row settle_row finish_at settle acts-finish acts-settle _ _ _ c.self.invariant.spelled c.self.view_is (ready-some c.args.s _ c.requires.ready) c.finish.ensures)
    (sound-finish c.args.s _ (sound-of _ _ c.self.invariant c.self.view_is))

pub returns : goal.returns
returns c = spells _ _ (moved (numbered c.args.s) finish_row settle_row finish_at settle acts-finish acts-settle _ _ _ c.self.invariant.spelled c.self.view_is (ready-some c.args.s _ c.requires.ready) c.finish.ensures)
