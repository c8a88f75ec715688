use Rattle.tk_paths.proofs.Dearest.{walk-form}
use Rattle.tk_paths.proofs.path_laws.a_program_walk_is_in_form.Goals as goal

pub returns : goal.returns
returns c = λ image program costs image_is priced ok low. walk-form image program costs image_is priced ok low
