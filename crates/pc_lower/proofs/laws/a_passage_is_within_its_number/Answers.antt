use Rattle.pc_lower.proofs.Words.{passages-few}
use Rattle.pc_lower.proofs.laws.a_passage_is_within_its_number.Goals as goal

pub returns : goal.returns
returns c = λ routines f. passages-few routines f
