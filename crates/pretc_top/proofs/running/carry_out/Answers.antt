use Rattle.std.proofs.Common.{[], ◌∷◌, refl}
use Rattle.pretc_run.specs.Endings.{line_of}
use Rattle.pretc_top.specs.Outside.{outside}
use Rattle.pretc_top.specs.Comes.{ends, run_ends}
use Rattle.pretc_top.proofs.Carrying.{carried_reports, carried_is_fresh, carried_inputs, carried_outputs, carried_few_inputs, carried_few_outputs}
use Rattle.pretc_top.proofs.running.carry_out.Goals as goal

pub run-requires-clause-fresh : goal.run-requires-clause-fresh
run-requires-clause-fresh g c = carried_is_fresh _ _ _ _ _ _ _ _ _ _ c.in-Ok.ensures.ready

pub run-requires-clause-inputs : goal.run-requires-clause-inputs
run-requires-clause-inputs g c = carried_inputs _ _ _ _ _ _ _ _ _ _ c.in-Ok.ensures.ready

pub run-requires-clause-outputs : goal.run-requires-clause-outputs
run-requires-clause-outputs g c = carried_outputs _ _ _ _ _ _ _ _ _ _ c.in-Ok.ensures.ready

pub run-requires-clause-few_inputs : goal.run-requires-clause-few_inputs
run-requires-clause-few_inputs g c = carried_few_inputs _ _ _ _ _ _ _ _ _ _ c.in-Ok.ensures.ready

pub run-requires-clause-few_outputs : goal.run-requires-clause-few_outputs
run-requires-clause-few_outputs g c = carried_few_outputs _ _ _ _ _ _ _ _ _ _ c.in-Ok.ensures.ready

pub returns-in-Ok : goal.returns-in-Ok
returns-in-Ok g c = record {
  comes =
      carried_reports c.args.program.now c.args.costs.now c.args.image.now c.args.cert.now
      (outside (g.H.Shelf.told c.args.shelf.now) (g.I.Source.told c.args.input.now) (g.O.Sink.told c.args.out.now))
      (outside (g.H.Shelf.told c.prepare.new.shelf) (g.I.Source.told c.run.new.input) (g.O.Sink.told c.run.new.out))
      c.run.result _ _ _ _ c.in-Ok.ensures.ready c.run.ensures.comes;
}

pub returns-in-Err : goal.returns-in-Err
returns-in-Err g c = record {
  comes =
      ends (line_of c.in-Err.ending ∷ []) c.in-Err.ending
      (run_ends c.args.program.now c.args.costs.now c.args.image.now c.args.cert.now c.in-Err.ending c.in-Err.ensures.failed) refl c.finish.ensures.answers;
}
