use Rattle.std.proofs.Common.{◌≡◌, ◌++◌, drop}
use Rattle.pc_names.specs.Names.{cell_in}
use Rattle.pc_names.specs.Chains.{numbered_operands}
use Rattle.pc_names.proofs.trees.+expression.Given as goal

abbrev pub invariant-operands-loop-op : goal.invariant-operands-loop-op
invariant-operands-loop-op l = l.all ++ numbered_operands (cell_in l.scope) (drop l.op-index l.rest) ≡ numbered_operands (cell_in l.scope) l.rest
