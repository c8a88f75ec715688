use Rattle.pc_meaning.proofs.Pausing.{never_pauses}
use Rattle.pc_meaning.proofs.laws.a_routine_never_pauses.Goals as goal

pub returns : goal.returns
returns c = λ routines known s never store. never_pauses routines known s never store
