use Rattle.std.proofs.Common.{length}
use Rattle.pc_parse.proofs.Parameters.{ParametersSoFar}
use Rattle.pc_parse.proofs.frames.parameter_list.Given as goal

abbrev pub invariant-loop-next : goal.invariant-loop-next
invariant-loop-next l = ParametersSoFar l.source l.tokens l.all l.left

abbrev pub decreases-loop-next : goal.decreases-loop-next
decreases-loop-next l = length l.left
