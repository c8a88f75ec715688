use Rattle.pc_lower.proofs.Slotwise.{slotwise}
use Rattle.pc_lower.proofs.region_laws.slots_stand_as_the_residual.Goals as goal

pub returns : goal.returns
returns c = λ parent image r t stands fits. slotwise parent image r t stands fits
