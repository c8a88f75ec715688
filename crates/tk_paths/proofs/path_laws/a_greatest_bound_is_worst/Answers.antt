use Rattle.tk_paths.proofs.Greatest.{greatest-worst}
use Rattle.tk_paths.proofs.path_laws.a_greatest_bound_is_worst.Goals as goal

pub returns : goal.returns
returns c = λ image cert costs accepted greatest low. greatest-worst image cert costs accepted greatest low
