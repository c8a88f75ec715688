use Rattle.pc_parse.proofs.Unique.{one_tree}
use Rattle.pc_parse.proofs.expressions.one_tree.Goals as goal

pub returns : goal.returns
returns c = one_tree
