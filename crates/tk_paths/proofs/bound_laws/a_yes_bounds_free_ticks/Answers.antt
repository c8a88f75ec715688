use Rattle.tk_paths.proofs.Bounds.{accepts-of, bounds-free}
use Rattle.tk_paths.proofs.bound_laws.a_yes_bounds_free_ticks.Goals as goal

pub returns : goal.returns
returns c = λ image cert costs h. bounds-free image cert costs (accepts-of image cert costs h) h.priced
