use Rattle.tk_paths.proofs.Crossings.{crossing-passage}
use Rattle.tk_paths.proofs.path_laws.a_region_is_a_passage.Goals as goal

pub returns : goal.returns
returns c = λ image costs r laid one few less. crossing-passage image costs r laid one few less
