use Rattle.pc_meaning.proofs.Bridge.{same_pause}
use Rattle.pc_meaning.proofs.laws.a_tree_pauses_alike.Goals as goal

pub returns : goal.returns
returns c = λ rooms n s. same_pause rooms n s
