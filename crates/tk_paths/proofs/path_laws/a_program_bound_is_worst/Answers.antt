use Rattle.mb_isa.proofs.CostRange.{cost_of-range}
use Rattle.tk_paths.specs.Programs.{certificate}
use Rattle.tk_paths.proofs.Greatest.{greatest-worst}
use Rattle.tk_paths.proofs.ProgramLaws.{program-greatest, program-accepted}
use Rattle.tk_paths.proofs.path_laws.a_program_bound_is_worst.Goals as goal

pub returns : goal.returns
returns c = λ image program costs walk image_is priced ok low.
    greatest-worst image (certificate image costs program walk) costs
    (program-accepted image program costs walk ok image_is (λ k. (cost_of-range costs priced k).0) priced)
    (program-greatest image program costs walk ok image_is (λ k. (cost_of-range costs priced k).0)) low
