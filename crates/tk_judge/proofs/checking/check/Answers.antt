use Rattle.tk_judge.proofs.Verdicts.{accepted, worst_of}
use Rattle.tk_judge.proofs.checking.check.Goals as goal

pub returns-clause-free_ticks : goal.returns-clause-free_ticks
returns-clause-free_ticks c =
    λ said. c.a_yes_bounds_free_ticks.ensures c.args.image.now c.args.cert.now c.args.costs.now (accepted c.args.image.now c.args.cert.now c.args.costs.now c.ranges-2.ensures c.shape.ensures c.cost-tick.ensures.in_range (c.decided.ensures.accepted.0 said))

pub returns-clause-runs : goal.returns-clause-runs
returns-clause-runs c =
    λ said. c.a_yes_bounds_runs.ensures c.args.image.now c.args.cert.now c.args.costs.now (accepted c.args.image.now c.args.cert.now c.args.costs.now c.ranges-2.ensures c.shape.ensures c.cost-tick.ensures.in_range (c.decided.ensures.accepted.0 said))

pub returns-clause-worst : goal.returns-clause-worst
returns-clause-worst c =
    worst_of c.args.image.now c.args.cert.now c.args.costs.now c.decided.result c.ranges-2.ensures c.shape.ensures c.cost-tick.ensures.in_range c.a_reached_bound_is_worst.ensures c.decided.ensures.accepted c.decided.ensures.reached
