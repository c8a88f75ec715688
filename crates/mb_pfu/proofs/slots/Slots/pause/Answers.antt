use Rattle.mb_pfu.specs.Rows.{pause_row, settle_row, numbered}
use Rattle.mb_pfu.specs.Tree.{pause_at, settle, paused}
use Rattle.mb_pfu.proofs.Moves.{acts-settle, acts-pause}
use Rattle.mb_pfu.proofs.Sound.{sound-pause}
use Rattle.mb_pfu.proofs.Trees.{moved, ready-some, spells, right-rows, sound-of}
use Rattle.mb_pfu.proofs.slots.Slots.pause.Goals as goal

pub invariant_of-self : goal.invariant_of-self
invariant_of-self c =
    right-rows (paused c.args.s c.args.at c.args.self.now) _
    (moved (numbered c.args.s) (pause_row c.args.at) settle_row (pause_at c.args.at) settle (acts-pause c.args.at) acts-settle _ _ _ c.self.invariant.spelled c.self.view_is (ready-some c.args.s _ c.requires.ready) c.pause.ensures.rows)
    (sound-pause c.args.s c.args.at _ (sound-of _ _ c.self.invariant c.self.view_is))

pub returns-clause-tree : goal.returns-clause-tree
returns-clause-tree c =
    spells _ _ (moved (numbered c.args.s) (pause_row c.args.at) settle_row (pause_at c.args.at) settle (acts-pause c.args.at) acts-settle _ _ _ c.self.invariant.spelled c.self.view_is (ready-some c.args.s _ c.requires.ready) c.pause.ensures.rows)
