use Rattle.pc_lower.proofs.Words.{routines-words}
use Rattle.pc_lower.proofs.laws.words_are_within_the_weight.Goals as goal

pub returns : goal.returns
returns c = λ routines. routines-words routines routines
