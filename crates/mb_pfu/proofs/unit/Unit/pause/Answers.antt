use Rattle.mb_pfu.proofs.Sound.{below-pause}
use Rattle.mb_pfu.proofs.unit.Unit.pause.Goals as goal

pub invariant_of-self : goal.invariant_of-self
invariant_of-self c = record { few = c.self.invariant.few; below = rw c.pause.ensures.tree (below-pause c.self.inside.slots c.args.s c.args.at c.self.inside.tree c.self.invariant.below) }
