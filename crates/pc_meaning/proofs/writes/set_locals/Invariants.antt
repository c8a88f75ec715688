use Rattle.std.proofs.Common.{◌≡◌, drop}
use Rattle.pc_meaning.specs.Values.{set_locals}
use Rattle.pc_meaning.specs.Programs.{locals_of}
use Rattle.pc_meaning.proofs.writes.set_locals.Given as goal

abbrev pub invariant-loop-local : goal.invariant-loop-local
invariant-loop-local l = record {
  current : set_locals (locals_of l.rooms (drop l.local-index l.locals)) l.cells.current ≡ set_locals (locals_of l.rooms l.locals) l.initial.cells.current;
  before : l.cells.before ≡ l.initial.cells.before;
}
