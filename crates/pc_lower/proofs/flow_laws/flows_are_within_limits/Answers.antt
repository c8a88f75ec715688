use Rattle.pc_lower.proofs.Within.{limits}
use Rattle.pc_lower.proofs.flow_laws.flows_are_within_limits.Goals as goal

pub returns : goal.returns
returns c = limits
