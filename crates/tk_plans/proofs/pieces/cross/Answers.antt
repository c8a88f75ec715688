use Rattle.tk_paths.specs.Trees.{read_program}
use Rattle.tk_plans.proofs.PieceLaws.{crossed_is, way_is}
use Rattle.tk_plans.proofs.pieces.cross.Goals as goal

pub returns-clause-next : goal.returns-clause-next
returns-clause-next c =
    crossed_is c.args.image.now c.args.costs.now c.args.pieces.now (read_program c.args.program.now) c.args.place c.in_ok-next.next c.requires
    c.in_ok-next.ensures.next

pub returns-clause-choices : goal.returns-clause-choices
returns-clause-choices c =
    way_is c.args.image.now c.args.costs.now c.args.pieces.now (read_program c.args.program.now) c.args.place c.args.choices.now.items
    c.cross_by.new.choices.items c.requires c.in_ok-next.ensures.choices
