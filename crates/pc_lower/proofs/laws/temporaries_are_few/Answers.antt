use Rattle.std.proofs.Common.{[]}
use Rattle.pc_lower.proofs.Temporaries.{routine_within, condition_within}
use Rattle.pc_lower.proofs.laws.temporaries_are_few.Goals as goal

pub returns-clause-nodes : goal.returns-clause-nodes
returns-clause-nodes c = λ routines r h. routine_within routines r h

pub returns-clause-conditions : goal.returns-clause-conditions
returns-clause-conditions c = λ e h. condition_within [] e h
