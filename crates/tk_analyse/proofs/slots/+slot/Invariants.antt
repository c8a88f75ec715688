use Rattle.std.proofs.Common.{◌+◌, ◌*◌}
use Rattle.tk_analyse.proofs.slots.+slot.Given as goal

abbrev pub decreases-slot : goal.decreases-slot
decreases-slot l = l.deep * 2048

abbrev pub decreases-child_slot : goal.decreases-child_slot
decreases-child_slot l = l.deep * 2048 + 1

abbrev pub decreases-group : goal.decreases-group
decreases-group l = l.deep * 2048 + 2 + l.count

abbrev pub decreases-waiting_slot : goal.decreases-waiting_slot
decreases-waiting_slot l = l.deep * 2048 + 1000

abbrev pub decreases-fork_slot : goal.decreases-fork_slot
decreases-fork_slot l = l.deep * 2048 + 1001

abbrev pub decreases-fork_at : goal.decreases-fork_at
decreases-fork_at l = l.deep * 2048 + 1002

abbrev pub decreases-joined_slot : goal.decreases-joined_slot
decreases-joined_slot l = l.deep * 2048 + 900

abbrev pub decreases-cut_slot : goal.decreases-cut_slot
decreases-cut_slot l = l.deep * 2048 + 900
