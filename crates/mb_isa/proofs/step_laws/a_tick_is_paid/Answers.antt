use Rattle.std.proofs.Common.{IsTrue}
use Rattle.mb_isa.specs.Cells.{machine}
use Rattle.mb_isa.proofs.Charging.{tick-safe}
use Rattle.mb_isa.proofs.step_laws.a_tick_is_paid.Goals as goal

pub returns : goal.returns
returns c = λ image costs most u values d is_good worth priced pays good low. tick-safe (machine image values) costs priced image most (λ k. IsTrue (is_good k)) worth pays u d good low
