use Rattle.mb_pfu.proofs.Keeps.{enter-states, leave-states, enter-next, leave-next}
use Rattle.mb_pfu.proofs.tree_laws.aborts_keep_states.Goals as goal

pub returns : goal.returns
returns c = record { enter_states = enter-states; leave_states = leave-states; enter_next = enter-next; leave_next = leave-next }
