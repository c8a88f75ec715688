use Rattle.std.proofs.Common.{◌≡◌, ℕ, drop, ap, ◌∙◌, arith}
use Rattle.tk_paths.specs.Greatest.{waited}
use Rattle.tk_paths.specs.Told.{told_by}
use Rattle.tk_paths.specs.Waits.{IsSmallWait}
use Rattle.tk_analyse.specs.Begun.{best_point}
use Rattle.tk_analyse.proofs.PointLaws.{best_holds, best_there}
use Rattle.tk_analyse.proofs.cuts.best_fork.Goals as goal

pub returns-clause-small : goal.returns-clause-small
returns-clause-small c = λ h.
    let given = waited c.args.image.now (told_by c.args.lines.now c.args.bounds.now) c.args.costs.now c.args.side in
    let all : c.loop-rest.rest ≡ 0 = omega (arith, c.loop-rest-test.false) in
    let best =
    c.loop-rest.invariant.point ∙ ap (λ (n : ℕ). best_point given c.args.slot (drop n c.forks-points.result.now)) all
    ∙ ap (best_point given c.args.slot) c.forks-points.ensures in
    best_there given c.args.slot c.args.image.now.forks c.loop-rest.best best h

pub returns-clause-waits : goal.returns-clause-waits
returns-clause-waits c = λ h.
    let given = waited c.args.image.now (told_by c.args.lines.now c.args.bounds.now) c.args.costs.now c.args.side in
    let all : c.loop-rest.rest ≡ 0 = omega (arith, c.loop-rest-test.false) in
    let best =
    c.loop-rest.invariant.point ∙ ap (λ (n : ℕ). best_point given c.args.slot (drop n c.forks-points.result.now)) all
    ∙ ap (best_point given c.args.slot) c.forks-points.ensures in
    best_holds (IsSmallWait c.args.image.now c.args.bounds.now) given c.args.slot c.args.image.now.forks c.loop-rest.best best h
