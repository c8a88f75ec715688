use Rattle.std.proofs.Common.{◌≡◌, map, fold, drop}
use Rattle.pc_grammar.specs.Finishing.{finishing}
use Rattle.pc_grammar.specs.Uses.{joined}
use Rattle.pc_rules.specs.Nests.{function_nests}
use Rattle.pc_rules.specs.Faults.{note_nest}
use Rattle.pc_rules.proofs.noting.of_functions.Given as goal

abbrev pub invariant-loop-f : goal.invariant-loop-f
invariant-loop-f l = fold (note_nest (finishing l.typed.functions)) l.total (joined (map function_nests (drop l.f-index l.functions))) ≡ fold (note_nest (finishing l.typed.functions)) l.fn.noted (joined (map function_nests l.functions))
