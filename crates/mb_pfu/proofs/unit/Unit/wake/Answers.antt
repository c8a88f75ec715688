use Rattle.mb_pfu.proofs.Sound.{below-wake}
use Rattle.mb_pfu.proofs.unit.Unit.wake.Goals as goal

pub invariant_of-self : goal.invariant_of-self
invariant_of-self c = record { few = c.self.invariant.few; below = rw c.wake.ensures (below-wake c.self.inside.slots c.self.inside.tree c.self.invariant.below) }
