use Rattle.mb_pfu.proofs.Laws.{free-outside}
use Rattle.mb_pfu.proofs.tree_laws.free_outside.Goals as goal

pub returns : goal.returns
returns c = free-outside
