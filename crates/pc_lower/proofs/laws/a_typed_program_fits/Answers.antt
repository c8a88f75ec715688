use Rattle.pc_lower.proofs.Promised.{typed_fits}
use Rattle.pc_lower.proofs.laws.a_typed_program_fits.Goals as goal

pub returns : goal.returns
returns c = λ t typed. typed_fits t typed
