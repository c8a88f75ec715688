use Rattle.mb_pfu.proofs.Sound.{below-answer}
use Rattle.mb_pfu.proofs.unit.Unit.answer.Goals as goal

pub invariant_of-self : goal.invariant_of-self
invariant_of-self c = record { few = c.self.invariant.few; below = rw c.answer.ensures (below-answer c.self.inside.slots c.args.fired c.self.inside.tree c.self.invariant.below) }
