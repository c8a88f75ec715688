use Rattle.std.proofs.Common.{◌≡◌, ◌++◌, drop}
use Rattle.pc_names.specs.Names.{cell_in, function_in}
use Rattle.pc_names.specs.Chains.{numbered_statements}
use Rattle.pc_names.proofs.trees.+statement.Given as goal

abbrev pub invariant-statements-loop-s : goal.invariant-statements-loop-s
invariant-statements-loop-s l = l.all ++ numbered_statements (cell_in l.scope) (function_in l.scope) (drop l.s-index l.of) ≡ numbered_statements (cell_in l.scope) (function_in l.scope) l.of
