use Rattle.std.proofs.Common.{◌≡◌, ◌+◌, ◌++◌, drop}
use Rattle.pc_grammar.specs.Typing.{numbers_from}
use Rattle.pc_names.proofs.functions.parameter_cells.Given as goal

abbrev pub invariant-loop-word : goal.invariant-loop-word
invariant-loop-word l = record {
  numbered : l.all ++ numbers_from l.next (drop l._word-index l.parameters) ≡ numbers_from l.first l.parameters;
  counted : l.next ≡ l.first + l._word-index;
}
