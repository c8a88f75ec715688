use Rattle.tk_walk.proofs.Spent.{tells-whole, only-whole}
use Rattle.tk_walk.proofs.cost.walk_cost.Goals as goal

pub returns : goal.returns
returns c = record {
  cost = tells-whole c.args.image.now c.args.costs.now c.args.walk.now c.cost_within.result c.cost_within.ensures.cost;
  only = only-whole c.args.image.now c.args.costs.now c.args.walk.now c.cost_within.result c.cost_within.ensures.only;
}
