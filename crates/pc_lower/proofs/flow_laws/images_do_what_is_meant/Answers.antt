use Rattle.pc_lower.specs.RegionLaws.{Agree}
use Rattle.pc_lower.proofs.FlowWhole.{does-what-is-meant}
use Rattle.pc_lower.proofs.flow_laws.images_do_what_is_meant.Goals as goal

pub returns : goal.returns
returns c = λ p parent image writing sizes placing compared fit whole small laws.
    does-what-is-meant p fit parent image writing sizes placing whole small (Agree compared) laws
