use Rattle.pc_lower.proofs.Leaving.{flow_leaves}
use Rattle.pc_lower.proofs.node_laws.a_node_leaves_its_residuals.Goals as goal

pub returns : goal.returns
returns c = λ bodies f w. flow_leaves bodies f w
