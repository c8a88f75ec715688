use Rattle.std.proofs.Common.{◌≡◌, ◌++◌, drop}
use Rattle.pc_meaning.specs.Programs.{rooms_from}
use Rattle.pc_meaning.proofs.layout.rooms.Given as goal

abbrev pub invariant-loop-cell : goal.invariant-loop-cell
invariant-loop-cell l = l.rooms.items ++ rooms_from l.place (drop l.cell-index l.cells) ≡ rooms_from 0 l.cells
