use Rattle.tk_paths.specs.Trees.{read_program}
use Rattle.tk_paths.specs.Dearest.{find_piece}
use Rattle.tk_paths.specs.Told.{told_by}
use Rattle.tk_plans.proofs.PartLaws.{part_is}
use Rattle.tk_plans.proofs.plans.+plan.Goals as goal

pub part-returns-clause-exact : goal.part-returns-clause-exact
part-returns-clause-exact t c =
    part_is c.args.image.now (told_by c.args.lines.now c.args.bounds.now) c.args.costs.now (find_piece (read_program c.args.program.now)) c.args.most
    c.args.place c.args.side c.args.level c.in_ok-all.all _ _ _ _ c.joined_at-joined.result c.group_of.result c.first_in.result c.count_in.result
    c.in_ok-next.next c.requires.some c.joined_at-joined.ensures c.group_of.ensures c.first_in.ensures.exact c.count_in.ensures.exact
    c.in_ok-children.ensures.exact c.in_ok-next.ensures.choices c.in_ok-next.ensures.next c.in_ok-all.ensures.exact
