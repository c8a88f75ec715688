use Rattle.std.proofs.Common.{map}
use Rattle.mb_pfu.specs.Rows.{each_row, renewed, as_it_is}
use Rattle.mb_pfu.specs.Tree.{tests_begun}
use Rattle.mb_pfu.proofs.Moves.{begun-spelled}
use Rattle.mb_pfu.proofs.Sound.{sound-each}
use Rattle.mb_pfu.proofs.Trees.{changed_all, spells, right-rows, sound-of}
use Rattle.mb_pfu.proofs.slots.Slots.begin_tests.Goals as goal

pub invariant_of-self : goal.invariant_of-self
invariant_of-self c =
    right-rows (tests_begun c.args.self.now) _ (changed_all (λ rs. map (each_row (map renewed) as_it_is) rs) tests_begun begun-spelled _ _ _ c.self.invariant c.self.view_is c.renew.ensures)
    (sound-each (map renewed) (λ x. x) _ (sound-of _ _ c.self.invariant c.self.view_is))

pub returns : goal.returns
returns c = spells _ _ (changed_all (λ rs. map (each_row (map renewed) as_it_is) rs) tests_begun begun-spelled _ _ _ c.self.invariant c.self.view_is c.renew.ensures)
