use Rattle.std.proofs.Common.{◌≡◌, ◌++◌, drop}
use Rattle.pc_grammar.specs.Uses.{expressions_uses}
use Rattle.pc_names.proofs.uses.expressions.Given as goal

abbrev pub invariant-loop-e : goal.invariant-loop-e
invariant-loop-e l = l.uses.items ++ expressions_uses (drop l.e-index l.all) ≡ l.initial.uses.items ++ expressions_uses l.all
