use Rattle.tk_paths.proofs.Attained.{tight-worst}
use Rattle.tk_paths.proofs.path_laws.a_tight_bound_is_worst.Goals as goal

pub returns : goal.returns
returns c = λ image cert costs accepted tight low. tight-worst image cert costs accepted tight low
