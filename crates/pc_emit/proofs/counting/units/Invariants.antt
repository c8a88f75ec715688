use Rattle.std.proofs.Common.{◌≡◌, ◌+◌, drop}
use Rattle.pc_emit.specs.Units.{units_in}
use Rattle.pc_emit.proofs.counting.units.Given as goal

abbrev pub invariant-loop-word : goal.invariant-loop-word
invariant-loop-word l = l.count + units_in (drop l.word-index l.words) ≡ units_in l.words
