use Rattle.std.proofs.Common.{◌≡◌, ◌++◌, drop}
use Rattle.pc_grammar.specs.Places.{names_of}
use Rattle.pc_names.proofs.functions.own_names.Given as goal

abbrev pub invariant-loop-word : goal.invariant-loop-word
invariant-loop-word l = l.names ++ names_of (drop l.word-index l.locals) ≡ l.parameters ++ names_of l.locals
