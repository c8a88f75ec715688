use Rattle.std.proofs.Common.{ap, ◌∙◌}
use Rattle.mb_isa.specs.Words.{Plan}
use Rattle.mb_isa.specs.Step.{stepped}
use Rattle.mb_isa.specs.Cells.{machine}
use Rattle.mb_core.proofs.core_state.Core.next_in.Goals as goal

pub returns-in-Some-clause-step : goal.returns-in-Some-clause-step
returns-in-Some-clause-step c = λ values. rw (c.in-Some.is, ← c.self.view_is) (ap (λ (p : Plan). stepped (machine c.args.loaded.now values) c.args.costs.now c.self.inside.store p) (c.next-did.ensures.plan c.args.loaded.now) ∙ c.come.ensures.step values)
