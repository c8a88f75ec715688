use Rattle.std.proofs.Common.{arith}
use Rattle.mb_isa.proofs.CostRange.{cost_of-range}
use Rattle.tk_paths.proofs.CountLaws.{counted}
use Rattle.tk_paths.proofs.path_laws.a_program_is_counted.Goals as goal

pub returns : goal.returns
returns c = λ image program costs walk image_is priced ok.
    counted image program costs walk ok image_is (λ k. (cost_of-range costs priced k).0)
    (λ k. let h = (cost_of-range costs priced k).1 in omega (arith, h))
