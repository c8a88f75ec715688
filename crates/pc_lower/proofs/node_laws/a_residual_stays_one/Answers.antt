use Rattle.pc_lower.proofs.Leaving.{flow_keeps}
use Rattle.pc_lower.proofs.node_laws.a_residual_stays_one.Goals as goal

pub returns : goal.returns
returns c = λ bodies weak fires n r o w. flow_keeps bodies weak fires n r o w
