use Rattle.std.proofs.Common.{◌≡◌, ◌≤◌, [], ◌∷◌, ◌++◌, List, ℕ, length, refl, sym, ap, subst, ◌∙◌}
use Rattle.pt_outside.specs.Told.{SourceTold}
use Rattle.pt_trace.specs.Readings.{begun}
use Rattle.pretc_run.specs.UnderWay.{Start, IsUnderWay}
use Rattle.pretc_run.specs.Reporting.{report_breaks}
use Rattle.pretc_run.proofs.Reports.{report_closes}
use Rattle.pretc_run.proofs.Stepping.{begins}
use Rattle.pretc_run.proofs.reporting.report.Goals as goal

pub returns-in-Ok : goal.returns-in-Ok
returns-in-Ok g c =
    let start : Start = record { image = c.args.machine.now.image; costs = c.args.machine.now.costs; most = c.args.most; source = g.I.Source.told c.args.input.now; sink = g.O.Sink.told c.args.out.now } in
    let P : SourceTold → Type 0 = λ t. IsUnderWay start [] c.args.machine.now c.begin-reader.result 0 t (g.O.Sink.told c.args.out.now) in
    let u = begins start c.args.machine.now c.begin-reader.result c.requires.fresh (c.begin-reader.ensures.reader ∙ ap begun c.requires.inputs) in
    let w = c.in-Ok.ensures.comes start refl (subst P (sym (ap g.I.Source.told c.begin-reader.ensures.input)) u) in
    record { comes = report_closes _ _ _ _ _ _ _ _ _ _ w c.close.ensures.closes }

pub returns-in-Err : goal.returns-in-Err
returns-in-Err g c =
    let start : Start = record { image = c.args.machine.now.image; costs = c.args.machine.now.costs; most = c.args.most; source = g.I.Source.told c.args.input.now; sink = g.O.Sink.told c.args.out.now } in
    let P : SourceTold → Type 0 = λ t. IsUnderWay start [] c.args.machine.now c.begin-reader.result 0 t (g.O.Sink.told c.args.out.now) in
    let u = begins start c.args.machine.now c.begin-reader.result c.requires.fresh (c.begin-reader.ensures.reader ∙ ap begun c.requires.inputs) in
    record { comes = report_breaks refl (c.in-Err.ensures.comes start refl (subst P (sym (ap g.I.Source.told c.begin-reader.ensures.input)) u)) }
