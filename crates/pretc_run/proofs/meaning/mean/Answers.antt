use Rattle.std.proofs.Common.{[], refl, sym, ap, subst, ◌∙◌}
use Rattle.pt_outside.specs.Told.{SourceTold}
use Rattle.pt_trace.specs.Readings.{begun}
use Rattle.pc_meaning.specs.Programs.{program_of}
use Rattle.pretc_run.specs.Meant.{mean_breaks}
use Rattle.pretc_run.specs.MeanUnderWay.{MeanStart, IsMeaning}
use Rattle.pretc_run.proofs.Reports.{mean_closes}
use Rattle.pretc_run.proofs.MeanStepping.{mean_begins}
use Rattle.pretc_run.proofs.meaning.mean.Goals as goal

pub returns-in-Ok : goal.returns-in-Ok
returns-in-Ok g c =
    let start : MeanStart = record { program = program_of c.args.meaning.now.typing; source = g.I.Source.told c.args.input.now; sink = g.O.Sink.told c.args.out.now } in
    let P : SourceTold → Type 0 = λ t. IsMeaning start [] c.args.meaning.now c.begin-reader.result t (g.O.Sink.told c.args.out.now) in
    let u = mean_begins start c.args.meaning.now c.begin-reader.result refl c.requires.begun (c.begin-reader.ensures.reader ∙ ap begun c.requires.inputs) in
    let w = c.in-Ok.ensures.comes start (subst P (sym (ap g.I.Source.told c.begin-reader.ensures.input)) u) in
    record { comes = mean_closes _ _ _ _ _ _ _ _ w c.close.ensures.closes }

pub returns-in-Err : goal.returns-in-Err
returns-in-Err g c =
    let start : MeanStart = record { program = program_of c.args.meaning.now.typing; source = g.I.Source.told c.args.input.now; sink = g.O.Sink.told c.args.out.now } in
    let P : SourceTold → Type 0 = λ t. IsMeaning start [] c.args.meaning.now c.begin-reader.result t (g.O.Sink.told c.args.out.now) in
    let u = mean_begins start c.args.meaning.now c.begin-reader.result refl c.requires.begun (c.begin-reader.ensures.reader ∙ ap begun c.requires.inputs) in
    record { comes = mean_breaks refl (c.in-Err.ensures.comes start (subst P (sym (ap g.I.Source.told c.begin-reader.ensures.input)) u)) }
