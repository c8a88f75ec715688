use Rattle.std.proofs.Common.{◌≡◌, ℕ, drop, ap, ◌∙◌, arith}
use Rattle.pt_image.specs.declared.Point.{Point}
use Rattle.tk_paths.specs.Greatest.{paused}
use Rattle.tk_paths.specs.Faults.{IsSmall}
use Rattle.tk_paths.specs.Told.{told_by}
use Rattle.tk_analyse.specs.Begun.{best_point}
use Rattle.tk_analyse.proofs.PointLaws.{best_holds}
use Rattle.tk_analyse.proofs.cuts.best_pause.Goals as goal

pub returns-clause-small : goal.returns-clause-small
returns-clause-small c = λ h.
    let given = paused c.args.image.now (told_by c.args.lines.now c.args.bounds.now) c.args.costs.now c.args.side in
    let all : c.loop-rest.rest ≡ 0 = omega (arith, c.loop-rest-test.false) in
    let best =
    c.loop-rest.invariant.point ∙ ap (λ (n : ℕ). best_point given c.args.slot (drop n c.pauses-points.result.now)) all
    ∙ ap (best_point given c.args.slot) c.pauses-points.ensures in
    best_holds (λ (p : Point). IsSmall (given p)) given c.args.slot c.args.image.now.pauses c.loop-rest.best best h
