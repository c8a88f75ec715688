use Rattle.std.proofs.Common.{◌≡◌, ◌++◌, drop}
use Rattle.pc_meaning.specs.Programs.{wanted, chosen}
use Rattle.pc_meaning.proofs.layout.places.Given as goal

abbrev pub invariant-loop-i : goal.invariant-loop-i
invariant-loop-i l = l.places.items ++ chosen (wanted l.input) (drop l.i l.cells) (drop l.i l.rooms) ≡ chosen (wanted l.input) l.cells l.rooms
