use Rattle.pc_meaning.proofs.Functions.{function_is}
use Rattle.pc_meaning.proofs.laws.a_function_does_its_body.Goals as goal

pub returns : goal.returns
returns c = λ routines below f less store. function_is routines below f less store
