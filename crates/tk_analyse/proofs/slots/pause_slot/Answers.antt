use Rattle.std.proofs.Common.{◌++◌, ap, ◌∙◌}
use Rattle.mb_pfu.specs.Tree.{Pausing}
use Rattle.tk_paths.specs.Choices.{Plan}
use Rattle.tk_paths.specs.Told.{told_by}
use Rattle.tk_plans.specs.Plans.{plans}
use Rattle.tk_analyse.proofs.StoodLaws.{leaf_stood}
use Rattle.tk_analyse.proofs.BegunLaws.{paused_own}
use Rattle.tk_analyse.proofs.slots.pause_slot.Goals as goal

pub returns-clause-states : goal.returns-clause-states
returns-clause-states c = leaf_stood c.args.slot _ (Pausing c.args.p.now.at) c.args.states.now.items c.stand.new.states.items c.stand.ensures

pub returns-clause-answers : goal.returns-clause-answers
returns-clause-answers c =
    let next = plans c.args.image.now c.args.lines.now c.args.bounds.now c.args.costs.now c.args.program.now c.args.most in
    let old = c.args.answers.now.items in
    c.in_ok-extend_from_slice.ensures.items ∙ ap (λ l. old ++ l) (c.as_slice.ensures.value ∙ c.in_ok-own.ensures.answers)
    ∙ ap (λ (x : Plan). old ++ x.0)
    (paused_own c.args.image.now (told_by c.args.lines.now c.args.bounds.now) c.args.costs.now next c.args.side c.args.p.now c.in_ok-cut.cut
    c.items-stack.result.now c.number-behind.result c.items-stack.ensures c.number-behind.ensures c.in_ok-cut.ensures.exact)

pub returns-clause-choices : goal.returns-clause-choices
returns-clause-choices c =
    let next = plans c.args.image.now c.args.lines.now c.args.bounds.now c.args.costs.now c.args.program.now c.args.most in
    c.in_ok-own.ensures.choices
    ∙ ap (λ (x : Plan). c.args.choices.now.items ++ x.1)
    (paused_own c.args.image.now (told_by c.args.lines.now c.args.bounds.now) c.args.costs.now next c.args.side c.args.p.now c.in_ok-cut.cut
    c.items-stack.result.now c.number-behind.result c.items-stack.ensures c.number-behind.ensures c.in_ok-cut.ensures.exact)
