use Rattle.std.proofs.Common.{suc, refl, sym, ◌∙◌, subst, Bool, List, arith}
use Rattle.mb_isa.specs.Free.{free}
use Rattle.mb_isa.specs.Tick.{Outcome}
use Rattle.mb_isa.proofs.Turning.{goes_on, is_late, is_over}
use Rattle.tk_walk.specs.Going.{left}
use Rattle.tk_walk.specs.Phases.{control_of, IsUnfinished}
use Rattle.tk_walk.proofs.Spending.{is_halted, none-there}
use Rattle.tk_walk.proofs.free_core.FreeCore.run.Goals as goal

pub steps-init : goal.steps-init
steps-init c = record { within = c.requires.begin; phase = c.requires.phase; rest = (suc c.args.most, omega arith, refl) }

pub returns-in-Err-clause-steps : goal.returns-in-Err-clause-steps
returns-in-Err-clause-steps c =
    subst (λ (o : Outcome (List Bool)). IsUnfinished o) (sym c.steps.invariant.rest.2)
    (is_halted c.args.image.now c.args.costs.now c.args.most c.steps.charged (control_of c.steps.phase c.steps.self) (left c.args.choices.now c.steps.self) c.steps.invariant.rest.0 _ c.steps.invariant.rest.1 c.steps.invariant.within c.in-Err.ensures.step)

pub returns-then-most-charged-clause-steps : goal.returns-then-most-charged-clause-steps
returns-then-most-charged-clause-steps c =
    subst (λ (o : Outcome (List Bool)). IsUnfinished o)
    (sym (c.steps.invariant.rest.2 ∙ is_late free c.args.image.now c.args.costs.now c.args.most c.steps.charged (control_of c.steps.phase c.steps.self) (left c.args.choices.now c.steps.self) c.steps.invariant.rest.0 c.in-Ok.moved.charge _ _ c.steps.invariant.rest.1 c.steps.invariant.within c.in-Ok.ensures.step (omega arith)))
    tt

pub steps-preserved : goal.steps-preserved
steps-preserved c =
    let on = goes_on free c.args.image.now c.args.costs.now c.args.most c.steps.charged (control_of c.steps.phase c.steps.self) (left c.args.choices.now c.steps.self) c.steps.invariant.rest.0 c.in-Ok.moved.charge _ _ c.requires.priced c.steps.invariant.rest.1 c.steps.invariant.within c.in-Ok.ensures.step (omega arith) in
    record { within = omega arith; phase = c.in-Ok.ensures.phase; rest = (on.0, on.1, c.steps.invariant.rest.2 ∙ on.3) }

pub returns-clause-steps : goal.returns-clause-steps
returns-clause-steps c =
    c.steps.invariant.rest.2
    ∙ is_over free c.args.image.now c.args.costs.now c.args.most c.steps.charged (control_of c.steps.phase c.steps.self) (left c.args.choices.now c.steps.self) c.steps.invariant.rest.0 c.steps.invariant.rest.1 c.steps.invariant.within (none-there c.steps.phase (sym c.in_default.ensures))
