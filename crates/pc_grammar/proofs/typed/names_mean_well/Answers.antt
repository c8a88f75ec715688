use Rattle.pc_grammar.proofs.Scalars.{means_well}
use Rattle.pc_grammar.proofs.typed.names_mean_well.Goals as goal

pub returns : goal.returns
returns c = means_well
