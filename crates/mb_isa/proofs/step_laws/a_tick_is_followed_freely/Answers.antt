use Rattle.mb_isa.proofs.Following.{machine-followed}
use Rattle.mb_isa.proofs.step_laws.a_tick_is_followed_freely.Goals as goal

pub returns : goal.returns
returns c = λ image costs most u values d. machine-followed image costs most u values d
