use Rattle.std.proofs.Common.{◌≡◌, drop, map}
use Rattle.pc_meaning.specs.Values.{set_all}
use Rattle.pc_meaning.specs.Programs.{place_of}
use Rattle.pc_meaning.proofs.writes.set_parameters.Given as goal

abbrev pub invariant-loop-i : goal.invariant-loop-i
invariant-loop-i l = record {
  current : set_all (map (place_of l.rooms) (drop l.i l.parameters)) (drop l.i l.words) l.cells.current ≡ set_all (map (place_of l.rooms) l.parameters) l.words l.initial.cells.current;
  before : l.cells.before ≡ l.initial.cells.before;
}
