use Rattle.std.proofs.Common.{◌+◌, ◌*◌, length}
use Rattle.pc_parse.proofs.Parts.{PartsSoFar}
use Rattle.pc_parse.proofs.bodies.+statement.Given as goal

abbrev pub decreases-statement : goal.decreases-statement
decreases-statement l = 3 * l.room + 2

abbrev pub decreases-branch : goal.decreases-branch
decreases-branch l = 3 * l.room + 1

abbrev pub decreases-repetition : goal.decreases-repetition
decreases-repetition l = 3 * l.room + 1

abbrev pub decreases-strong_abort : goal.decreases-strong_abort
decreases-strong_abort l = 3 * l.room + 1

abbrev pub decreases-weak_abort : goal.decreases-weak_abort
decreases-weak_abort l = 3 * l.room + 1

abbrev pub decreases-aborted : goal.decreases-aborted
decreases-aborted l = 3 * l.room + 3

abbrev pub decreases-statements : goal.decreases-statements
decreases-statements l = 3 * l.room

abbrev pub invariant-statements-reading : goal.invariant-statements-reading
invariant-statements-reading l = PartsSoFar l.source l.room l.tokens l.all l.left

abbrev pub decreases-statements-reading : goal.decreases-statements-reading
decreases-statements-reading l = length l.left
