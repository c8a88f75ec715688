use Rattle.std.proofs.Common.{ap}
use Rattle.std.proofs.lemmas.List.{get_or-replicate}
use Rattle.tk_shape.specs.Looking.{kept}
use Rattle.tk_shape.proofs.index.Index.none.Goals as goal

pub returns : goal.returns
returns c = λ place within. ap kept (get_or-replicate 65536 place 0 0 within)
