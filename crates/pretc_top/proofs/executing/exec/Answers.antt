use Rattle.std.proofs.Common.{[], ◌∷◌, refl}
use Rattle.pretc_run.specs.Endings.{line_of}
use Rattle.pretc_top.specs.Outside.{outside}
use Rattle.pretc_top.specs.Comes.{ends, exec_ends}
use Rattle.pretc_top.proofs.Execs.{exec_reports, ready_is_fresh, ready_inputs, ready_outputs, ready_few_inputs, ready_few_outputs}
use Rattle.pretc_top.proofs.executing.exec.Goals as goal

pub run-requires-clause-fresh : goal.run-requires-clause-fresh
run-requires-clause-fresh g c = ready_is_fresh _ _ _ _ _ _ _ _ _ c.in-Ok.ensures.ready

pub run-requires-clause-inputs : goal.run-requires-clause-inputs
run-requires-clause-inputs g c = ready_inputs _ _ _ _ _ _ _ _ _ c.in-Ok.ensures.ready

pub run-requires-clause-outputs : goal.run-requires-clause-outputs
run-requires-clause-outputs g c = ready_outputs _ _ _ _ _ _ _ _ _ c.in-Ok.ensures.ready

pub run-requires-clause-few_inputs : goal.run-requires-clause-few_inputs
run-requires-clause-few_inputs g c = ready_few_inputs _ _ _ _ _ _ _ _ _ c.in-Ok.ensures.ready

pub run-requires-clause-few_outputs : goal.run-requires-clause-few_outputs
run-requires-clause-few_outputs g c = ready_few_outputs _ _ _ _ _ _ _ _ _ c.in-Ok.ensures.ready

pub returns-in-Ok : goal.returns-in-Ok
returns-in-Ok g c = record {
  comes =
      exec_reports c.args.image.now c.args.cert.now c.args.costs.now
      (outside (g.H.Shelf.told c.args.shelf.now) (g.I.Source.told c.args.input.now) (g.O.Sink.told c.args.out.now))
      (outside (g.H.Shelf.told c.prepare.new.shelf) (g.I.Source.told c.run.new.input) (g.O.Sink.told c.run.new.out))
      c.run.result _ _ _ _ c.in-Ok.ensures.ready c.run.ensures.comes;
}

pub returns-in-Err : goal.returns-in-Err
returns-in-Err g c = record {
  comes = ends (line_of c.in-Err.ending ∷ []) c.in-Err.ending (exec_ends c.args.image.now c.args.cert.now c.args.costs.now c.in-Err.ending c.in-Err.ensures.failed) refl c.finish.ensures.answers;
}
