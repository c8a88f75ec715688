use Rattle.std.specs.Prelude.{IsTrue}
use Rattle.pc_lower.specs.RegionLaws.{Agree}
use Rattle.pc_lower.proofs.Runs.{runs}
use Rattle.pc_lower.proofs.region_laws.runs_are_those_of_the_flow.Goals as goal

pub returns : goal.returns
returns c = λ parent image costs f writing sizes placing compared kept most whole small laws steady ample temps rows fit.
    runs parent image costs f writing sizes placing whole small (Agree compared) laws (λ p. IsTrue (kept p)) steady most ample temps rows fit
