use Rattle.std.proofs.Common.{ap, ◌∙◌, drop}
use Rattle.mb_isa.specs.Words.{Plan}
use Rattle.mb_isa.specs.Step.{stepped}
use Rattle.mb_isa.specs.Free.{free}
use Rattle.tk_walk.proofs.free_core.FreeCore.loop_in.Goals as goal

pub returns-in-Some-clause-step : goal.returns-in-Some-clause-step
returns-in-Some-clause-step c = rw (c.in-Some.is, ← c.self.view_is) (ap (λ (p : Plan). stepped free c.args.costs.now (drop c.self.inside.used c.args.choices.now) p) (c.loop_word-did.ensures.plan c.args.image.now) ∙ c.come.ensures.step)
