use Rattle.std.proofs.Common.{length}
use Rattle.pc_grammar.proofs.Cuts.{CutSoFar}
use Rattle.pc_grammar.proofs.lexer.lex.Given as goal

abbrev pub invariant-cutting : goal.invariant-cutting
invariant-cutting l = CutSoFar l.text l.tokens.items l.at l.rest

abbrev pub decreases-cutting : goal.decreases-cutting
decreases-cutting l = length l.rest
