use Rattle.std.proofs.Common.{length}
use Rattle.pc_parse.proofs.Rows.{ExpressionsSoFar}
use Rattle.pc_parse.proofs.lists.expressions.Given as goal

abbrev pub invariant-loop-next : goal.invariant-loop-next
invariant-loop-next l = ExpressionsSoFar l.source l.tokens l.all l.left

abbrev pub decreases-loop-next : goal.decreases-loop-next
decreases-loop-next l = length l.left
