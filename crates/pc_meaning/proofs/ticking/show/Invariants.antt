use Rattle.std.proofs.Common.{◌≡◌, take}
use Rattle.pc_meaning.specs.Runs.{words_at}
use Rattle.pc_meaning.proofs.ticking.show.Given as goal

abbrev pub invariant-loop-i : goal.invariant-loop-i
invariant-loop-i l = take l.i l.out ≡ words_at (take l.i l.places) l.store
