use Rattle.std.proofs.Common.{◌-◌, ◌+◌, ◌*◌, length}
use Rattle.pc_parse.proofs.Chains.{ChainSoFar}
use Rattle.pc_parse.proofs.expressions.+expression.Given as goal

abbrev pub decreases-operand : goal.decreases-operand
decreases-operand l = 14 * l.room + 2

abbrev pub decreases-element : goal.decreases-element
decreases-element l = 14 * l.room + 1

abbrev pub decreases-between : goal.decreases-between
decreases-between l = 14 * l.room + 14

abbrev pub decreases-chain_at : goal.decreases-chain_at
decreases-chain_at l = 14 * l.room + l.level + 3

abbrev pub invariant-chain_at-loop-op : goal.invariant-chain_at-loop-op
invariant-chain_at-loop-op l = ChainSoFar l.source l.room (l.level - 1) l.tokens l.head l.rest l.left

abbrev pub decreases-chain_at-loop-op : goal.decreases-chain_at-loop-op
decreases-chain_at-loop-op l = length l.left
