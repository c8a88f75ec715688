use Rattle.std.proofs.Common.{◌≡◌, drop}
use Rattle.pc_meaning.specs.Lefts.{is_over}
use Rattle.pc_meaning.proofs.lefts.is_over.Given as goal

abbrev pub invariant-loop-left : goal.invariant-loop-left
invariant-loop-left l = is_over (drop l.left-index l.lefts) ≡ is_over l.lefts
