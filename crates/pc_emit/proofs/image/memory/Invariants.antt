use Rattle.std.proofs.Common.{◌≡◌, pos, ◌-◌, ◌++◌, replicate}
use Rattle.pc_emit.proofs.image.memory.Given as goal

abbrev pub invariant-loop-word : goal.invariant-loop-word
invariant-loop-word l = l.memory.items ++ replicate (l.further - l._word) (pos 0) ≡ l.declared ++ replicate l.further (pos 0)
