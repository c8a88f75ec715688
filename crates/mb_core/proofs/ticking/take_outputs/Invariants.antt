use Rattle.std.proofs.Common.{◌≡◌, take, map}
use Rattle.mb_isa.specs.Cells.{word_at}
use Rattle.mb_core.proofs.ticking.take_outputs.Given as goal

abbrev pub invariant-loop-i : goal.invariant-loop-i
invariant-loop-i l = take l.i l.out ≡ map (word_at l.core.cells) (take l.i l.loaded.outputs)
