use Rattle.std.proofs.Common.{◌++◌, ap, ◌∙◌}
use Rattle.tk_paths.specs.Choices.{Plan}
use Rattle.tk_paths.specs.Dearest.{find_piece}
use Rattle.tk_paths.specs.Trees.{read_program}
use Rattle.tk_paths.specs.Told.{told_by}
use Rattle.tk_plans.specs.Plans.{plans}
use Rattle.tk_analyse.proofs.BegunLaws.{rested_own}
use Rattle.tk_analyse.proofs.slots.behind_fork.Goals as goal

pub returns-clause-answers : goal.returns-clause-answers
returns-clause-answers c =
    let I = c.args.image.now in
    let next = plans I c.args.lines.now c.args.bounds.now c.args.costs.now c.args.program.now c.args.most in
    c.in_ok-own-2.ensures.answers
    ∙ ap (λ (x : Plan). x.0)
    (rested_own I (told_by c.args.lines.now c.args.bounds.now) c.args.costs.now next (find_piece (read_program c.args.program.now)) c.args.joined _ c.args.side
    c.args.p.now c.items-stack.result.now c.rest_next-next.result c.if-joined.false c.items-stack.ensures c.rest_next-next.ensures)

pub returns-clause-choices : goal.returns-clause-choices
returns-clause-choices c =
    let I = c.args.image.now in
    let next = plans I c.args.lines.now c.args.bounds.now c.args.costs.now c.args.program.now c.args.most in
    c.in_ok-own-2.ensures.choices
    ∙ ap (λ (x : Plan). c.args.choices.now.items ++ x.1)
    (rested_own I (told_by c.args.lines.now c.args.bounds.now) c.args.costs.now next (find_piece (read_program c.args.program.now)) c.args.joined _ c.args.side
    c.args.p.now c.items-stack.result.now c.rest_next-next.result c.if-joined.false c.items-stack.ensures c.rest_next-next.ensures)
