use Rattle.std.proofs.Common.{◌≡◌, ◌++◌, map, drop}
use Rattle.pc_grammar.specs.Typing.{numbered}
use Rattle.pc_names.specs.Names.{cell_in}
use Rattle.pc_names.proofs.trees.expressions.Given as goal

abbrev pub invariant-loop-e : goal.invariant-loop-e
invariant-loop-e l = l.all ++ map (numbered (cell_in l.scope)) (drop l.e-index l.of) ≡ map (numbered (cell_in l.scope)) l.of
