use Rattle.std.proofs.Common.{◌≡◌, ◌+◌, ◌++◌, length, drop}
use Rattle.pc_grammar.specs.Places.{names_of}
use Rattle.pc_grammar.specs.Typing.{cells_of, typed_locals}
use Rattle.pc_names.proofs.functions.local_cells.Given as goal

abbrev pub invariant-loop-name : goal.invariant-loop-name
invariant-loop-name l = record {
  typed : l.all ++ typed_locals l.known l.own (drop l.name-index l.locals) ≡ typed_locals l.known l.parameters l.locals;
  counted : l.next ≡ length (cells_of l.known) + length l.own;
  named : l.own ++ names_of (drop l.name-index l.locals) ≡ l.parameters ++ names_of l.locals;
}
