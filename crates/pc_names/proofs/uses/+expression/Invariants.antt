use Rattle.std.proofs.Common.{◌≡◌, ◌++◌, drop}
use Rattle.pc_names.specs.Rest.{chain_uses}
use Rattle.pc_names.proofs.uses.+expression.Given as goal

abbrev pub invariant-operands-loop-e : goal.invariant-operands-loop-e
invariant-operands-loop-e l = l.uses.items ++ chain_uses (drop l.e-index l.rest) ≡ l.initial.uses.items ++ chain_uses l.rest
