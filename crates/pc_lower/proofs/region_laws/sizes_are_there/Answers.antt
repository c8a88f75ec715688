use Rattle.pc_lower.proofs.Sizing.{counts}
use Rattle.pc_lower.proofs.region_laws.sizes_are_there.Goals as goal

pub returns : goal.returns
returns c = λ words test_words bodies order f. counts words test_words bodies order f
