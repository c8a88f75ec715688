use Rattle.std.proofs.Common.{map}
use Rattle.mb_pfu.specs.Rows.{each_row, as_they_are, woken}
use Rattle.mb_pfu.specs.Tree.{all_woken, wakes}
use Rattle.mb_pfu.proofs.Moves.{woken-spelled}
use Rattle.mb_pfu.proofs.Sound.{sound-each}
use Rattle.mb_pfu.proofs.Trees.{changed_all, spells, right-rows, sound-of}
use Rattle.mb_pfu.proofs.slots.Slots.wake.Goals as goal

pub invariant_of-self : goal.invariant_of-self
invariant_of-self c =
    right-rows (all_woken c.args.self.now) _ (changed_all (λ rs. map (each_row as_they_are woken) rs) all_woken woken-spelled _ _ _ c.self.invariant c.self.view_is c.wake.ensures)
    (sound-each as_they_are wakes _ (sound-of _ _ c.self.invariant c.self.view_is))

pub returns : goal.returns
returns c = spells _ _ (changed_all (λ rs. map (each_row as_they_are woken) rs) all_woken woken-spelled _ _ _ c.self.invariant c.self.view_is c.wake.ensures)
