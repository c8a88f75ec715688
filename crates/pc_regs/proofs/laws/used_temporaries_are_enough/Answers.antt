use Rattle.pc_regs.proofs.Enough.{enough}
use Rattle.pc_regs.proofs.laws.used_temporaries_are_enough.Goals as goal

pub returns : goal.returns
returns c = enough
