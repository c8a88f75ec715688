use Rattle.pc_meaning.specs.Programs.{program_of}
use Rattle.pc_lower.proofs.Whole.{same_run}
use Rattle.pc_lower.proofs.Promised.{typed_fits}
use Rattle.pc_lower.proofs.laws.a_typed_flow_is_correct.Goals as goal

pub returns : goal.returns
returns c = λ t typed temps rows. same_run (program_of t) (typed_fits t typed) temps rows
