use Rattle.pc_meaning.specs.Programs.{program_of}
use Rattle.pc_lower.proofs.Promised.{typed_nested}
use Rattle.pc_lower.proofs.Few.{bodies_few, conditions_few}
use Rattle.pc_lower.proofs.laws.a_typed_flow_is_few.Goals as goal

pub returns-clause-nodes : goal.returns-clause-nodes
returns-clause-nodes c = λ t typed. bodies_few (program_of t).routines (program_of t).routines (typed_nested t typed)

pub returns-clause-conditions : goal.returns-clause-conditions
returns-clause-conditions c = λ t typed. conditions_few (program_of t).routines (typed_nested t typed)
