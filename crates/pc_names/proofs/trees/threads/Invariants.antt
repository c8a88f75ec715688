use Rattle.std.proofs.Common.{◌≡◌, ◌++◌, map, drop}
use Rattle.pc_names.specs.Names.{function_in}
use Rattle.pc_names.proofs.trees.threads.Given as goal

abbrev pub invariant-loop-name : goal.invariant-loop-name
invariant-loop-name l = l.all ++ map (function_in l.scope) (drop l.name-index l.names) ≡ map (function_in l.scope) l.names
