use Rattle.pc_lower.proofs.Limits.{limited}
use Rattle.pc_lower.proofs.region_laws.ticks_are_limited.Goals as goal

pub returns : goal.returns
returns c = λ parent image costs f writing sizes placing whole small p t stands. limited parent image costs f writing sizes placing whole small p t stands
