use Rattle.tk_judge.proofs.Reached.{is-cost, no-cost}
use Rattle.tk_judge.proofs.checking.is_reached.Goals as goal

pub returns-in-Some : goal.returns-in-Some
returns-in-Some c =
    is-cost c.args.image.now c.args.costs.now c.args.cert.now.walk c.walk.result.now c.in-Some.cost c.args.cert.now.bound c.bound.result c.walk.ensures c.bound.ensures c.in-Some.ensures.cost c.in-Some.ensures.only

pub returns-in-None : goal.returns-in-None
returns-in-None c = no-cost c.args.image.now c.args.costs.now c.args.cert.now.walk c.walk.result.now c.args.cert.now.bound c.walk.ensures c.in-None.ensures.cost
