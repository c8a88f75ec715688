use Rattle.pc_lower.proofs.Numbering.{slots-are, one-list, have-slots}
use Rattle.pc_lower.proofs.region_laws.slots_are_numbered.Goals as goal

pub returns : goal.returns
returns c = λ f order main. (slots-are f order main, one-list f order main, have-slots f order main)
