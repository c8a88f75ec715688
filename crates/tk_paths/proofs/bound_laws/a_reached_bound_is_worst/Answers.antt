use Rattle.tk_paths.proofs.Worst.{reached-worst}
use Rattle.tk_paths.proofs.bound_laws.a_reached_bound_is_worst.Goals as goal

pub returns : goal.returns
returns c = λ image cert costs h reached. reached-worst image cert costs h reached
