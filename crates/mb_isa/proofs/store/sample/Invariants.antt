use Rattle.std.proofs.Common.{◌≡◌, drop}
use Rattle.mb_isa.specs.Cells.{with_inputs}
use Rattle.mb_isa.proofs.store.sample.Given as goal

abbrev pub invariant-loop-i : goal.invariant-loop-i
invariant-loop-i l = record {
  rest : with_inputs (drop l.i l.places) (drop l.i l.values) l.store.memory ≡ with_inputs l.places l.values l.fn.store.memory;
  registers : l.store.registers ≡ l.fn.store.registers;
}
