use Rattle.std.proofs.Common.{length}
use Rattle.pc_parse.proofs.Locals.{LocalsSoFar}
use Rattle.pc_parse.proofs.frames.locals.Given as goal

abbrev pub invariant-reading : goal.invariant-reading
invariant-reading l = LocalsSoFar l.source l.tokens l.all l.left

abbrev pub decreases-reading : goal.decreases-reading
decreases-reading l = length l.left
