use Rattle.mb_pfu.proofs.Lasts.{enter_ready}
use Rattle.mb_pfu.proofs.Sound.{below-enter}
use Rattle.mb_pfu.proofs.unit.Unit.enter.Goals as goal

pub invariant_of-self : goal.invariant_of-self
invariant_of-self c = record { few = c.self.invariant.few; below = rw c.enter.ensures (below-enter c.self.inside.slots c.args.s _ c.self.inside.tree c.self.invariant.below) }

pub returns-clause-ready : goal.returns-clause-ready
returns-clause-ready c = rw c.enter.ensures (enter_ready c.args.s _ c.self.inside.tree (rw (← c.self.view_is) at c.requires.ready))
