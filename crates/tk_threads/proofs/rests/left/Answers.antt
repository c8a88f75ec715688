use Rattle.std.proofs.Common.{◌≡◌, ◌<◌, ◌+◌, ◌++◌, [], ◌∷◌, length, refl, ap, sym, ◌∙◌, arith}
use mathlib.Core.Path.{ap₂}
use Rattle.tk_paths.specs.Numbers.{left}
use Rattle.tk_paths.specs.Levels.{numbers_of, levels_to}
use Rattle.tk_paths.proofs.LevelLaws.{no-levels, one-more}
use Rattle.tk_threads.proofs.RestLaws.{left-pair, left-told}
use Rattle.std.proofs.lemmas.Result.{err_from_is_err_and}
use Rattle.tk_threads.proofs.SmallLaws.{left-pause, left-end}
use Rattle.tk_threads.proofs.rests.left.Goals as goal

pub loop-k-init : goal.loop-k-init
loop-k-init c =
    c.new-levels.ensures.items ∙ sym (no-levels (left c.args.image.now c.args.costs.now c.args.aborts.now (numbers_of c.args.behind.now)))

pub loop-k-preserved : goal.loop-k-preserved
loop-k-preserved c =
    let V = numbers_of c.args.behind.now in
    let within : c.loop-k.k < length c.args.aborts.now + 1 = omega arith in
    c.in_ok-push.ensures.items
    ∙ ap₂ (λ l x. l ++ x ∷ []) c.loop-k.invariant
    (left-pair c.args.image.now c.args.costs.now c.args.aborts.now V c.loop-k.k c.cost.result c.level_at-pair.result c.in_ok-plus.field-0 c.in_ok-plus-2.field-0 within c.cost.ensures.cost c.level_at-pair.ensures c.in_ok-plus.ensures.exact c.in_ok-plus-2.ensures.exact)
    ∙ sym (one-more (left c.args.image.now c.args.costs.now c.args.aborts.now V) c.loop-k.k)

pub returns-clause-exact : goal.returns-clause-exact
returns-clause-exact c =
    let V = numbers_of c.args.behind.now in
    let end : c.loop-k.k ≡ length c.args.aborts.now + 1 = omega arith in
    left-told c.args.image.now c.args.costs.now c.args.aborts.now V _
    (c.of.ensures ∙ c.loop-k.invariant ∙ ap (levels_to (left c.args.image.now c.args.costs.now c.args.aborts.now V)) end) refl

pub returns-in_err-plus-clause-fits : goal.returns-in_err-plus-clause-fits
returns-in_err-plus-clause-fits c = λ h.
    let p = err_from_is_err_and c.from_residual.result c.from_residual.ensures.1 in
    rw (p.1, p.2) (c.in_err-plus.ensures.fits (left-pause c.args.image.now c.args.costs.now c.args.aborts.now (numbers_of c.args.behind.now) c.loop-k.k c.cost.result c.level_at-pair.result (omega arith) c.cost.ensures.cost c.level_at-pair.ensures h))

pub returns-in_err-plus-2-clause-fits : goal.returns-in_err-plus-2-clause-fits
returns-in_err-plus-2-clause-fits c = λ h.
    let p = err_from_is_err_and c.from_residual-in_err-plus-2.result c.from_residual-in_err-plus-2.ensures.1 in
    rw (p.1, p.2) (c.in_err-plus-2.ensures.fits (left-end c.args.image.now c.args.costs.now c.args.aborts.now (numbers_of c.args.behind.now) c.loop-k.k c.cost.result c.level_at-pair.result (omega arith) c.cost.ensures.cost c.level_at-pair.ensures h))
