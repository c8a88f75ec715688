use Rattle.std.proofs.Common.{◌≡◌, drop}
use Rattle.pc_meaning.specs.Values.{operated}
use Rattle.pc_meaning.specs.Programs.{operands_of}
use Rattle.pc_meaning.proofs.values.+value.Given as goal

abbrev pub invariant-chain-loop-op : goal.invariant-chain-loop-op
invariant-chain-loop-op l = operated (operands_of l.rooms (drop l.op-index l.rest)) l.word l.store ≡ operated (operands_of l.rooms l.rest) l.first l.store
