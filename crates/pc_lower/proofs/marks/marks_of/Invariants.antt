use Rattle.std.proofs.Common.{◌≡◌, ◌++◌, drop}
use Rattle.pc_meaning.specs.Programs.{eots_step, pars_step, aborts_step, spans_of}
use Rattle.pc_lower.proofs.marks.marks_of.Given as goal

abbrev pub invariant-loop-function : goal.invariant-loop-function
invariant-loop-function l = record {
  eots : l.marks.eots.items ++ spans_of eots_step (drop l.function-index l.functions) ≡ spans_of eots_step l.functions;
  pars : l.marks.pars.items ++ spans_of pars_step (drop l.function-index l.functions) ≡ spans_of pars_step l.functions;
  aborts : l.marks.aborts.items ++ spans_of aborts_step (drop l.function-index l.functions) ≡ spans_of aborts_step l.functions;
}
