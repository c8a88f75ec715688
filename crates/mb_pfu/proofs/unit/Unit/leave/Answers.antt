use Rattle.mb_pfu.proofs.Sound.{below-leave}
use Rattle.mb_pfu.proofs.unit.Unit.leave.Goals as goal

pub invariant_of-self : goal.invariant_of-self
invariant_of-self c = record { few = c.self.invariant.few; below = rw c.leave.ensures (below-leave c.self.inside.slots c.args.s c.self.inside.tree c.self.invariant.below) }
