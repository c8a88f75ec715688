use Rattle.pc_grammar.proofs.ItemSpans.{rise}
use Rattle.pc_grammar.proofs.laws.spans_rise.Goals as goal

pub returns : goal.returns
returns c = rise
