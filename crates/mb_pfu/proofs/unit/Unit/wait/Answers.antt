use Rattle.std.proofs.Common.{arith, ap}
use Rattle.mb_pfu.specs.Unit.{State}
use Rattle.mb_pfu.proofs.Sound.{below-wait}
use Rattle.mb_pfu.proofs.unit.Unit.wait.Goals as goal

pub invariant_of-self : goal.invariant_of-self
invariant_of-self c = record {
  few = c.self.invariant.few;
  below = below-wait c.self.inside.slots c.args.s c.args.at c.args.lo c.args.starts.now c.self.inside.tree _ _ c.fork.ensures.tree c.self.invariant.below (omega (arith, ap (λ (u : State). u.slots) c.self.view_is));
}
