use Rattle.std.proofs.Common.{◌≡◌, ◌++◌, map, drop}
use Rattle.pc_grammar.specs.Uses.{use_of}
use Rattle.pc_grammar.specs.declared.roles.Role.TheVariants.{Starts}
use Rattle.pc_names.proofs.uses.threads.Given as goal

abbrev pub invariant-loop-word : goal.invariant-loop-word
invariant-loop-word l = l.uses.items ++ map (use_of Starts) (drop l.word-index l.threads) ≡ l.initial.uses.items ++ map (use_of Starts) l.threads
