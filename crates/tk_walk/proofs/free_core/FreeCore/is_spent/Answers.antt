use Rattle.tk_walk.proofs.Spent.{spent}
use Rattle.tk_walk.proofs.free_core.FreeCore.is_spent.Goals as goal

pub returns : goal.returns
returns c = rw (← c.self.view_is) (spent c.args.choices.now c.self.inside.used)
