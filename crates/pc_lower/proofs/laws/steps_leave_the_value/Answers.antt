use Rattle.pc_lower.proofs.Values.{leaves_value}
use Rattle.pc_lower.proofs.laws.steps_leave_the_value.Goals as goal

pub returns : goal.returns
returns c = λ e k w. leaves_value e k w
