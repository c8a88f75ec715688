use Rattle.std.proofs.Common.{◌≡◌, drop}
use Rattle.pc_meaning.specs.Cells.{copied}
use Rattle.pc_meaning.proofs.cells.copy.Given as goal

abbrev pub invariant-loop-place : goal.invariant-loop-place
invariant-loop-place l = copied (drop l.place-index l.places) l.from l.into.items ≡ copied l.places l.from l.initial.into.items
