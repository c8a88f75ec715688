use Rattle.std.proofs.Common.{sym, ap, ◌∙◌}
use Rattle.tk_walk.specs.Building.{is_loose}
use Rattle.tk_walk.proofs.Loops.{any-passed}
use Rattle.tk_walk.proofs.configuration.any_loose.Goals as goal

pub loop-j-preserved : goal.loop-j-preserved
loop-j-preserved c = any-passed c.args.states.now c.args.from c.args.count c.loop-j.j c.loop-j-test.true (ap is_loose (sym c.state_at.ensures) ∙ sym c.is_loose.ensures ∙ c.if-is_loose.false) c.loop-j.invariant
