use Rattle.std.proofs.Common.{◌≡◌, drop}
use Rattle.pc_grammar.specs.Finishing.{all_finish}
use Rattle.pc_grammar.proofs.finishing.+may.Given as goal

abbrev pub invariant-all_may-loop-statement : goal.invariant-all_may-loop-statement
invariant-all_may-loop-statement l = all_finish l.known (drop l.statement-index l.all) ≡ all_finish l.known l.all
