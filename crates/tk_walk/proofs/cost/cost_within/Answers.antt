use Rattle.tk_walk.proofs.Spent.{tells-none, tells, only-none, only}
use Rattle.tk_walk.proofs.cost.cost_within.Goals as goal

pub returns-in-None : goal.returns-in-None
returns-in-None c = record {
  cost = tells-none c.args.image.now c.args.costs.now c.args.most c.args.walk.now (rw c.items.ensures at c.in-None.ensures);
  only = only-none c.args.image.now c.args.costs.now c.args.most c.args.walk.now (rw c.items.ensures at c.in-None.ensures);
}

pub returns-in-Some : goal.returns-in-Some
returns-in-Some c = record {
  cost = tells c.args.image.now c.args.costs.now c.args.most c.args.walk.now c.in-Some.unit c.tick_cost.result (rw c.items.ensures at c.in-Some.ensures) (rw c.items-in-Some.ensures at c.tick_cost.ensures);
  only = only c.args.image.now c.args.costs.now c.args.most c.args.walk.now c.in-Some.unit c.tick_cost.result (rw c.items.ensures at c.in-Some.ensures) (rw c.items-in-Some.ensures at c.tick_cost.ensures);
}
