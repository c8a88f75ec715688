use Rattle.std.proofs.Common.{◌≡◌, drop}
use Rattle.pc_meaning.specs.Lefts.{routines_of, trees}
use Rattle.pc_lower.specs.Lowered.{nodes_of}
use Rattle.pc_lower.proofs.Trees.{before}
use Rattle.pc_lower.proofs.statements.+node.Given as goal

abbrev pub invariant-nodes-loop-s : goal.invariant-nodes-loop-s
invariant-nodes-loop-s l =
    before l.nodes (nodes_of (routines_of l.rooms l.functions) (trees l.rooms l.functions (drop l.s-index l.all))) ≡ nodes_of (routines_of l.rooms l.functions) (trees l.rooms l.functions l.all)
