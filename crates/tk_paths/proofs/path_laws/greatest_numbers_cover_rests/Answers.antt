use Rattle.tk_paths.proofs.Rested.{rests-covered}
use Rattle.tk_paths.proofs.path_laws.greatest_numbers_cover_rests.Goals as goal

pub returns : goal.returns
returns c = λ image cert costs fits shaped greatest. rests-covered image cert costs greatest fits shaped
