use Rattle.std.proofs.Common.{◌≡◌, ◌≤◌, ℕ, subst}
use Rattle.mb_pfu.specs.declared.parts.Slot.TheVariants.{Free}
use Rattle.mb_pfu.specs.Tree.{slot_of}
use Rattle.mb_pfu.specs.Unit.{State}
use Rattle.mb_pfu.proofs.Firsts.{uncounted-free}
use Rattle.mb_pfu.proofs.unit.Unit.sound.Goals as goal

pub returns-clause-others : goal.returns-clause-others
returns-clause-others c =
    let P : State → Type 0 = λ u. (s : ℕ) → u.slots ≤ s → slot_of s u.tree ≡ Free in
    subst P c.self.view_is (λ s h. uncounted-free s c.self.inside.tree (c.self.invariant.below s h))
