use Rattle.pc_grammar.proofs.Longest.{longest_sign}
use Rattle.pc_grammar.proofs.lexer.longest_sign.Goals as goal

pub returns : goal.returns
returns c = longest_sign
