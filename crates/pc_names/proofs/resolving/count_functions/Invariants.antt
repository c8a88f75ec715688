use Rattle.std.proofs.Common.{◌≡◌, ◌+◌, drop}
use Rattle.pc_grammar.specs.Typing.{functions_in}
use Rattle.pc_names.proofs.resolving.count_functions.Given as goal

abbrev pub invariant-loop-item : goal.invariant-loop-item
invariant-loop-item l = l.count + functions_in (drop l.item-index l.items) ≡ functions_in l.items
