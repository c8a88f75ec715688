use Rattle.std.proofs.Common.{arith}
use Rattle.mb_pfu.proofs.Sound.{below-wait}
use Rattle.mb_pfu.proofs.unit.Unit.fork.Goals as goal

pub invariant_of-self-2 : goal.invariant_of-self-2
invariant_of-self-2 c = record {
  few = c.self.invariant.few;
  below = below-wait c.self.inside.slots c.args.s c.args.at c.args.lo c.args.starts.now c.self.inside.tree _ _ c.fork.ensures.tree c.self.invariant.below (omega arith);
}
