use Rattle.std.proofs.Common.{[], ◌∷◌, refl}
use Rattle.pretc_run.specs.Endings.{line_of}
use Rattle.pretc_run.proofs.Ports.{few_inputs, few_outputs}
use Rattle.pretc_top.specs.Outside.{outside}
use Rattle.pretc_top.specs.Comes.{ends, mean_ends}
use Rattle.pretc_top.proofs.Meanings.{mean_reports}
use Rattle.pretc_top.proofs.meaning.mean.Goals as goal

pub mean_program-requires-clause-few_inputs : goal.mean_program-requires-clause-few_inputs
mean_program-requires-clause-few_inputs g c = few_inputs c.in-Ok.accepted.typed c.in-Ok.ensures.taken.accepted.within

pub mean_program-requires-clause-few_outputs : goal.mean_program-requires-clause-few_outputs
mean_program-requires-clause-few_outputs g c = few_outputs c.in-Ok.accepted.typed c.in-Ok.ensures.taken.accepted.within

pub returns-in-Ok : goal.returns-in-Ok
returns-in-Ok g c = record {
  comes =
      mean_reports c.args.program.now
      (outside (g.H.Shelf.told c.args.shelf.now) (g.I.Source.told c.args.input.now) (g.O.Sink.told c.args.out.now))
      (outside (g.H.Shelf.told c.load_accepted.new.shelf) (g.I.Source.told c.mean_program.new.input) (g.O.Sink.told c.mean_program.new.out))
      c.in-Ok.accepted.program c.in-Ok.accepted.typed c.mean_program.result c.in-Ok.ensures.taken c.in-Ok.ensures.kept c.mean_program.ensures.comes;
}

pub returns-in-Err : goal.returns-in-Err
returns-in-Err g c = record {
  comes = ends (line_of c.in-Err.ending ∷ []) c.in-Err.ending (mean_ends c.args.program.now c.in-Err.ending c.in-Err.ensures.failed) refl c.finish.ensures.answers;
}
