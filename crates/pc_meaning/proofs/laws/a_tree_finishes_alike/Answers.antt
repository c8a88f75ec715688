use Rattle.std.proofs.Common.{[]}
use Rattle.pc_meaning.specs.Programs.{rooms_of, numbering_of}
use Rattle.pc_meaning.proofs.Bridge.{same_finishing}
use Rattle.pc_meaning.proofs.laws.a_tree_finishes_alike.Goals as goal

pub returns : goal.returns
returns c = λ t. same_finishing (rooms_of t.cells) (numbering_of t.functions) [] t.functions
