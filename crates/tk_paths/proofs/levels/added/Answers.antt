use Rattle.std.proofs.Common.{◌≡◌, ◌≤◌, ◌++◌, [], ◌∷◌, length, ap, sym, ◌∙◌, arith}
use mathlib.Core.Path.{ap₂}
use Rattle.tk_paths.specs.Levels.{numbers_of, levels_to, added}
use Rattle.tk_paths.proofs.LevelLaws.{no-levels, one-more, added-pair, added-told}
use Rattle.std.proofs.lemmas.Result.{err_from_is_err_and}
use Rattle.tk_paths.proofs.Rooms.{added-pause, added-end, added-value}
use Rattle.tk_paths.proofs.levels.added.Goals as goal

pub loop-k-init : goal.loop-k-init
loop-k-init c = c.new-levels.ensures.items ∙ sym (no-levels (added c.args.cycles (numbers_of c.args.behind.now)))

pub loop-k-preserved : goal.loop-k-preserved
loop-k-preserved c =
    let V = added c.args.cycles (numbers_of c.args.behind.now) in
    c.in_ok-push.ensures.items
    ∙ ap₂ (λ l x. l ++ x ∷ []) c.loop-k.invariant
    (added-pair c.args.cycles (numbers_of c.args.behind.now) c.loop-k.k c.level_at-pair.result c.in_ok-plus.field-0 c.in_ok-plus-2.field-0 c.level_at-pair.ensures c.in_ok-plus.ensures.exact c.in_ok-plus-2.ensures.exact)
    ∙ sym (one-more V c.loop-k.k)

pub returns-clause-exact : goal.returns-clause-exact
returns-clause-exact c =
    let V = added c.args.cycles (numbers_of c.args.behind.now) in
    let most = c.max-count.ensures in
    let same = ap length c.items.ensures in
    let end : c.loop-k.k ≡ c.max-count.result = omega arith in
    let some : 1 ≤ c.max-count.result = omega (arith, most) in
    let all : length c.args.behind.now.levels ≤ c.max-count.result = omega (arith, most, same) in
    added-told c.args.cycles c.args.behind.now _ c.max-count.result some all (c.of.ensures ∙ c.loop-k.invariant ∙ ap (levels_to V) end) c.in_ok-plus-3.ensures.exact

pub returns-in_err-plus-clause-fits : goal.returns-in_err-plus-clause-fits
returns-in_err-plus-clause-fits c = λ h.
    let p = err_from_is_err_and c.from_residual.result c.from_residual.ensures.1 in
    rw (p.1, p.2) (c.in_err-plus.ensures.fits (added-pause c.args.cycles (numbers_of c.args.behind.now) c.loop-k.k c.level_at-pair.result c.level_at-pair.ensures h))

pub returns-in_err-plus-2-clause-fits : goal.returns-in_err-plus-2-clause-fits
returns-in_err-plus-2-clause-fits c = λ h.
    let p = err_from_is_err_and c.from_residual-in_err-plus-2.result c.from_residual-in_err-plus-2.ensures.1 in
    rw (p.1, p.2) (c.in_err-plus-2.ensures.fits (added-end c.args.cycles (numbers_of c.args.behind.now) c.loop-k.k c.level_at-pair.result c.level_at-pair.ensures h))

pub returns-in_err-plus-3-clause-fits : goal.returns-in_err-plus-3-clause-fits
returns-in_err-plus-3-clause-fits c = λ h.
    let p = err_from_is_err_and c.from_residual-in_err-plus-3.result c.from_residual-in_err-plus-3.ensures.1 in
    rw (p.1, p.2) (c.in_err-plus-3.ensures.fits (added-value c.args.cycles c.args.behind.now h))
