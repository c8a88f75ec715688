use Rattle.pc_lower.proofs.Weighed.{program_weighs, program_passes}
use Rattle.pc_lower.proofs.laws.weights_are_those_of_the_language.Goals as goal

pub returns-clause-whole : goal.returns-clause-whole
returns-clause-whole c = λ t. program_weighs t

pub returns-clause-passages : goal.returns-clause-passages
returns-clause-passages c = λ t. program_passes t
