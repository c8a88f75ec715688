use Rattle.std.proofs.Common.{length}
use Rattle.pc_parse.proofs.Whole.{ItemsSoFar}
use Rattle.pc_parse.proofs.programs.all_items.Given as goal

abbrev pub invariant-reading : goal.invariant-reading
invariant-reading l = ItemsSoFar l.source l.tokens l.all l.left

abbrev pub decreases-reading : goal.decreases-reading
decreases-reading l = length l.left
