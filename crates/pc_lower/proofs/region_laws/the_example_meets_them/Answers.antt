use Rattle.pc_lower.proofs.Example.{image-of, within-limits, data-laws}
use Rattle.pc_lower.proofs.region_laws.the_example_meets_them.Goals as goal

pub returns : goal.returns
returns c = λ costs priced. (image-of costs priced, within-limits, data-laws)
