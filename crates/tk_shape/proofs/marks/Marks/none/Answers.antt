use Rattle.std.proofs.Common.{false}
use Rattle.std.proofs.lemmas.List.{get_or-replicate}
use Rattle.tk_shape.proofs.marks.Marks.none.Goals as goal

pub returns : goal.returns
returns c = λ place within. get_or-replicate 65536 place false false within
