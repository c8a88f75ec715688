use Rattle.std.proofs.Common.{◌≡◌, ap, ◌∙◌, Some, Ok}
use Rattle.mb_isa.specs.Words.{Plan}
use Rattle.mb_isa.specs.Step.{stepped}
use Rattle.mb_isa.specs.Cells.{machine}
use Rattle.mb_core.specs.Going.{went}
use Rattle.mb_core.specs.Phases.{slot_in}
use Rattle.mb_core.proofs.Phases.{plan-there}
use Rattle.mb_core.proofs.core_state.Core.advance.Goals as goal

pub returns-in-Err-clause-step : goal.returns-in-Err-clause-step
returns-in-Err-clause-step c =
    ap (λ (p : Plan). stepped (machine c.args.loaded.now c.args.values.now) c.args.costs.now c.args.self.now.cells p) (plan-there c.args.loaded.now c.args.phase c.args.place c.args.self.now c.requires.place)
    ∙ (rw (c.slot_in.ensures, c.in-Err.is) at (c.step.ensures.step c.args.values.now))

pub returns-in-Running-clause-step : goal.returns-in-Running-clause-step
returns-in-Running-clause-step c =
    let who : slot_in c.args.phase ≡ Some c.in-Running.s = ap slot_in c.in-Running.is in
    ap (λ (p : Plan). stepped (machine c.args.loaded.now c.args.values.now) c.args.costs.now c.args.self.now.cells p) (plan-there c.args.loaded.now c.args.phase c.args.place c.args.self.now c.requires.place)
    ∙ (rw (c.slot_in.ensures, c.in-Ok.is) at (c.step.ensures.step c.args.values.now))
    ∙ ap (λ slot. went (machine c.args.loaded.now c.args.values.now) slot (Ok c.in-Ok.did) c.step.new.self) who
    ∙ c.after_turn.ensures.step c.args.loaded.now c.args.values.now
