use Rattle.pc_lower.proofs.Laid.{can-be-laid}
use Rattle.pc_lower.proofs.flow_laws.flows_can_be_laid.Goals as goal

pub returns : goal.returns
returns c = can-be-laid
