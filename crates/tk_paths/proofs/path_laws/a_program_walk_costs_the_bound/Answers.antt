use Rattle.tk_paths.proofs.Dearest.{walk-costs}
use Rattle.tk_paths.proofs.path_laws.a_program_walk_costs_the_bound.Goals as goal

pub returns : goal.returns
returns c = λ image program costs image_is priced ok low. (walk-costs image program costs image_is priced ok low).0
