use Rattle.pc_meaning.proofs.Functions.{prefix}
use Rattle.pc_meaning.proofs.laws.more_functions_change_nothing.Goals as goal

pub returns : goal.returns
returns c = λ front more below s named store. prefix front more below s named store
