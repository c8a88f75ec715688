use Rattle.mb_pfu.proofs.Sound.{below-finish}
use Rattle.mb_pfu.proofs.unit.Unit.finish.Goals as goal

pub invariant_of-self : goal.invariant_of-self
invariant_of-self c = record { few = c.self.invariant.few; below = rw c.finish.ensures (below-finish c.self.inside.slots c.args.s c.self.inside.tree c.self.invariant.below) }
