use Rattle.std.proofs.Common.{◌∙◌}
use Rattle.std.proofs.lemmas.Result.{err_from_is_err_and}
use Rattle.tk_paths.specs.Greatest.{waited}
use Rattle.tk_paths.specs.Told.{told_by}
use Rattle.tk_paths.proofs.SmallLaws.{one-here, one-past, given-small, wait-small}
use Rattle.tk_paths.proofs.resuming.best_waited.Goals.{then-p-slot+in_ok-given, else-p-slot}
use Rattle.tk_paths.proofs.resuming.best_waited.Goals as goal

pub loop-p-preserved : goal.loop-p-preserved
loop-p-preserved c =
    let given = waited c.args.image.now (told_by c.args.lines.now c.args.bounds.now) c.args.costs.now c.args.side in
    let l = c.loop-p in
    let forks = c.args.image.now.forks in
    let items = c.forks-p-items in
    elim c.if-p-slot.branch [
      | then-p-slot+in_ok-given w ↦
          one-here given c.args.slot forks items.result.now l.p-index c.p-item.result items.ensures c.loop-p-test.true c.p-item.is l.most c.if-p-slot.most w.in_ok-given.given
          w.if-p-slot.true (w.most-is ∙ w.greater-most.ensures) w.in_ok-given.ensures.exact l.invariant
      | else-p-slot w ↦
          one-past given c.args.slot forks items.result.now l.p-index c.p-item.result items.ensures c.loop-p-test.true c.p-item.is l.most c.if-p-slot.most
          w.if-p-slot.false w.most-is l.invariant
    ]

pub returns-in_err-given-clause-fits : goal.returns-in_err-given-clause-fits
returns-in_err-given-clause-fits c = λ k h.
    let p = err_from_is_err_and c.from_residual.result c.from_residual.ensures.1 in
    let given = waited c.args.image.now (told_by c.args.lines.now c.args.bounds.now) c.args.costs.now c.args.side in
    let l = c.loop-p in
    let forks = c.args.image.now.forks in
    let items = c.forks-p-items in
    rw (p.1, p.2) (c.in_err-given.ensures.fits
    (wait-small given c.args.slot forks items.result.now l.p-index c.p-item.result items.ensures c.loop-p-test.true c.p-item.is c.args.image.now c.args.bounds.now c.if-p-slot.true k)
    (given-small given c.args.slot forks items.result.now l.p-index c.p-item.result items.ensures c.loop-p-test.true c.p-item.is l.most c.if-p-slot.true l.invariant h))
