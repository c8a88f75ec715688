use Rattle.pc_lower.proofs.Configured.{configured}
use Rattle.pc_lower.proofs.region_laws.flows_stand_in_configurations.Goals as goal

pub returns : goal.returns
returns c = λ parent image costs f writing sizes placing whole few p t stands. configured parent image costs f writing sizes placing whole few p t stands
