use Rattle.std.proofs.Common.{◌≡◌, ◌++◌, drop}
use Rattle.pc_print.specs.Parts.{text}
use Rattle.pc_print.specs.Canonical.{operands, pieces}
use Rattle.pc_print.proofs.expressions.+put_expression.Given as goal

abbrev pub invariant-put_operands-loop-op : goal.invariant-put_operands-loop-op
invariant-put_operands-loop-op l = l.out.items ++ text (operands l.level (pieces (drop l.op-index l.rest))) ≡ l.fn.out.items ++ text (operands l.level (pieces l.rest))
