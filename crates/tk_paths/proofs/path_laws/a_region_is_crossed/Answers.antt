use Rattle.tk_paths.proofs.Crossings.{crosses}
use Rattle.tk_paths.proofs.path_laws.a_region_is_crossed.Goals as goal

pub returns : goal.returns
returns c = λ image costs r laid. crosses image costs r laid
