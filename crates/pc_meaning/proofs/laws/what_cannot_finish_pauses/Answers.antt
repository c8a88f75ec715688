use Rattle.pc_meaning.proofs.Functions.{statement_lasts}
use Rattle.pc_meaning.proofs.laws.what_cannot_finish_pauses.Goals as goal

pub returns : goal.returns
returns c = λ routines last s lasts never store. statement_lasts routines last s lasts never store
