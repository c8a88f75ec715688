use Rattle.std.proofs.Common.{[], ◌∷◌, refl}
use Rattle.pretc_run.specs.Endings.{line_of}
use Rattle.pretc_top.specs.Outside.{outside}
use Rattle.pretc_top.specs.Comes.{ends, go_ends}
use Rattle.pretc_top.proofs.Ready.{ready_reports}
use Rattle.pretc_top.proofs.going.go.Goals as goal

pub returns-in-Ok : goal.returns-in-Ok
returns-in-Ok g c = record {
  comes =
      ready_reports c.args.program.now c.args.name.now
      (outside (g.H.Shelf.told c.args.shelf.now) (g.I.Source.told c.args.input.now) (g.O.Sink.told c.args.out.now))
      (outside (g.H.Shelf.told c.prepare.new.shelf) (g.I.Source.told c.run.new.input) (g.O.Sink.told c.run.new.out))
      _ _ _ c.run.result c.in-Ok.ensures.ready c.run.ensures.comes;
}

pub returns-in-Err : goal.returns-in-Err
returns-in-Err g c = record {
  comes = ends (line_of c.in-Err.ending ∷ []) c.in-Err.ending (go_ends c.args.program.now c.args.name.now c.in-Err.ending c.in-Err.ensures.failed) refl c.finish.ensures.answers;
}
