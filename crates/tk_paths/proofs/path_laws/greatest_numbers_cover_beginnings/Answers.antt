use Rattle.tk_paths.proofs.Covered.{covered}
use Rattle.tk_paths.proofs.path_laws.greatest_numbers_cover_beginnings.Goals as goal

pub returns : goal.returns
returns c = λ image cert costs greatest. covered image cert costs greatest
