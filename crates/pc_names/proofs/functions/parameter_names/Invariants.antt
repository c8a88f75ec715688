use Rattle.std.proofs.Common.{◌≡◌, ◌++◌, drop}
use Rattle.pc_names.proofs.functions.parameter_names.Given as goal

abbrev pub invariant-loop-word : goal.invariant-loop-word
invariant-loop-word l = l.names ++ drop l.word-index l.parameters ≡ l.parameters
