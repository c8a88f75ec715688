use Rattle.std.proofs.Common.{length}
use Rattle.pc_grammar.proofs.Closing.{SoFar}
use Rattle.pc_grammar.proofs.fronts.closed.Given as goal

abbrev pub invariant-loop-b : goal.invariant-loop-b
invariant-loop-b l = SoFar l.bytes l.count l.rest

abbrev pub decreases-loop-b : goal.decreases-loop-b
decreases-loop-b l = length l.rest
