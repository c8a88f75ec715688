use Rattle.std.proofs.Common.{◌+◌, ◌*◌}
use Rattle.pc_lower_cases.proofs.drawing.Drawing.+expand.Given as goal

abbrev pub decreases-one_of : goal.decreases-one_of
decreases-one_of l = 2 * l.deep

abbrev pub decreases-expand : goal.decreases-expand
decreases-expand l = 2 * l.deep + 1
