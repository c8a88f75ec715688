use Rattle.pc_grammar.proofs.One.{one_cut}
use Rattle.pc_grammar.proofs.lexer.one_cut.Goals as goal

pub returns : goal.returns
returns c = one_cut
