use Rattle.pc_lower.proofs.Whole.{same_run}
use Rattle.pc_lower.proofs.laws.a_flow_is_correct.Goals as goal

pub returns : goal.returns
returns c = λ p fit temps rows. same_run p fit temps rows
