use Rattle.pc_grammar.proofs.Values.{ReadSoFar}
use Rattle.pc_grammar.proofs.numbers.number_in.Given as goal

abbrev pub invariant-loop-digit : goal.invariant-loop-digit
invariant-loop-digit l = ReadSoFar l.base l.digits l.digit-index l.value
