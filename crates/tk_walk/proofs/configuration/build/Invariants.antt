use Rattle.std.proofs.Common.{◌-◌}
use Rattle.mb_pfu.specs.Tree.{Tree}
use Rattle.tk_walk.specs.Building.{IsBuilding, IsWhole, IsFront, resting}
use Rattle.tk_walk.proofs.configuration.build.Given as goal

abbrev pub invariant-slots : goal.invariant-slots
invariant-slots l = record {
  building : IsBuilding l.image l.states l.unit;
  fronts : (t : Tree) → IsWhole l.image l.states t → IsFront l.unit.tree t;
}

abbrev pub decreases-slots : goal.decreases-slots
decreases-slots l = 64 - resting l.unit.tree
