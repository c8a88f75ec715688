use Rattle.std.proofs.Common.{◌≡◌, ◌++◌, drop}
use Rattle.pc_grammar.specs.Uses.{statements_uses}
use Rattle.pc_names.proofs.uses.+statement.Given as goal

abbrev pub invariant-statements-loop-s : goal.invariant-statements-loop-s
invariant-statements-loop-s l = l.uses.items ++ statements_uses (drop l.s-index l.all) ≡ l.initial.uses.items ++ statements_uses l.all
