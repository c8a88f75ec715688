use Rattle.std.proofs.Common.{◌≡◌, true, false, sym, ◌∙◌}
use Rattle.tk_walk.proofs.Spent.{unfinished, left-over, costs-so}
use Rattle.tk_walk.proofs.cost.tick_cost.Goals as goal

pub returns-in-None : goal.returns-in-None
returns-in-None c = unfinished c.args.image.now c.args.costs.now c.args.most c.args.unit c.args.choices.now c.of-core.result c.tick.new.self c.of-core.ensures c.in-None.ensures.tick

pub returns-then-is_spent : goal.returns-then-is_spent
returns-then-is_spent c = costs-so c.args.image.now c.args.costs.now c.args.most c.args.unit c.args.choices.now c.of-core.result c.tick.new.self c.of-core.ensures c.in-Some.cycles c.in-Some.ensures.tick (c.is_spent.ensures.0 c.if-is_spent.true) c.in-Some.ensures.within

pub returns-else-is_spent : goal.returns-else-is_spent
returns-else-is_spent c =
    left-over c.args.image.now c.args.costs.now c.args.most c.args.unit c.args.choices.now c.of-core.result c.tick.new.self c.of-core.ensures c.in-Some.cycles c.in-Some.ensures.tick
    (λ e. let t : true ≡ false = sym (c.is_spent.ensures.1 e) ∙ c.if-is_spent.false in cc)
