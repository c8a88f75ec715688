use Rattle.std.proofs.Common.{[], ap}
use Rattle.mb_pfu.specs.Tree.{Running}
use Rattle.tk_paths.specs.Kinds.{start_of}
use Rattle.tk_analyse.specs.Begun.{begun_by}
use Rattle.tk_analyse.proofs.StoodLaws.{leaf_stood}
use Rattle.tk_analyse.proofs.BegunLaws.{same_states}
use Rattle.tk_analyse.proofs.walks.begun.Goals as goal

pub returns-in_ok-plan-in-Starts-clause-states : goal.returns-in_ok-plan-in-Starts-clause-states
returns-in_ok-plan-in-Starts-clause-states c =
    same_states _ _
    (ap (begun_by c.args.image.now c.args.lines.now c.args.bounds.now c.args.costs.now c.args.program.now c.args.most) c.in-Starts.is) 0
    c.args.states.now.items c.stand.new.states.items
    (leaf_stood 0 [] (Running (start_of c.args.image.now 0)) c.args.states.now.items c.stand.new.states.items c.stand.ensures)
