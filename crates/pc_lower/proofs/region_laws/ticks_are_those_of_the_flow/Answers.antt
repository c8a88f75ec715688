use Rattle.mb_isa.specs.Cells.{machine}
use Rattle.pc_lower.specs.RegionLaws.{Agree}
use Rattle.pc_lower.proofs.Image.{ticks-as-flow}
use Rattle.pc_lower.proofs.region_laws.ticks_are_those_of_the_flow.Goals as goal

pub returns : goal.returns
returns c = λ parent image costs f writing sizes placing compared row whole facts p before from d stands agree.
    ticks-as-flow parent image costs f writing sizes placing whole (machine image row) (Agree compared) row facts p before from d stands agree
