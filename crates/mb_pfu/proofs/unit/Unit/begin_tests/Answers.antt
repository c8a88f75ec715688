use Rattle.mb_pfu.proofs.Sound.{below-tests}
use Rattle.mb_pfu.proofs.unit.Unit.begin_tests.Goals as goal

pub invariant_of-self : goal.invariant_of-self
invariant_of-self c = record { few = c.self.invariant.few; below = rw c.begin_tests.ensures (below-tests c.self.inside.slots c.self.inside.tree c.self.invariant.below) }
