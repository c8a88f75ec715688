use Rattle.std.proofs.Common.{◌≡◌, drop}
use Rattle.pc_grammar.specs.Finishing.{finishing, finishing_from}
use Rattle.pc_grammar.proofs.finishing.of_each.Given as goal

abbrev pub invariant-loop-function : goal.invariant-loop-function
invariant-loop-function l = finishing_from l.known.items (drop l.function-index l.functions) ≡ finishing l.functions
