use Rattle.std.proofs.Common.{◌≡◌, max, drop}
use Rattle.pc_lower.specs.Trees.{all_read}
use Rattle.pc_regs.specs.Assignment.{used_by_all}
use Rattle.pc_regs.proofs.assignment.+used_by.Given as goal

abbrev pub invariant-used_by_all-loop-node : goal.invariant-used_by_all-loop-node
invariant-used_by_all-loop-node l = max l.most (used_by_all (all_read (drop l.node-index l.nodes))) ≡ used_by_all (all_read l.nodes)
