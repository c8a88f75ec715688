use Rattle.std.proofs.Common.{◌≡◌, drop}
use Rattle.pc_meaning.specs.Values.{set_all}
use Rattle.pc_meaning.proofs.ticking.sample.Given as goal

abbrev pub invariant-loop-i : goal.invariant-loop-i
invariant-loop-i l = record {
  current : set_all (drop l.i l.places) (drop l.i l.row) l.cells.current ≡ set_all l.places l.row l.initial.cells.current;
  before : l.cells.before ≡ l.initial.cells.before;
}
