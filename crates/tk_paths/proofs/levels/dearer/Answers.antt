use Rattle.std.proofs.Common.{◌≡◌, ◌≤◌, ◌++◌, [], ◌∷◌, length, ap, sym, ◌∙◌, arith}
use mathlib.Core.Path.{ap₂}
use Rattle.tk_paths.specs.Levels.{numbers_of, levels_to, dearer}
use Rattle.tk_paths.proofs.LevelLaws.{no-levels, one-more, dearer-pair, dearer-told}
use Rattle.tk_paths.proofs.levels.dearer.Goals as goal

pub loop-k-init : goal.loop-k-init
loop-k-init c = c.new-levels.ensures.items ∙ sym (no-levels (dearer (numbers_of c.args.first.now) (numbers_of c.args.second.now)))

pub loop-k-preserved : goal.loop-k-preserved
loop-k-preserved c =
    let V = numbers_of c.args.first.now in
    let W = numbers_of c.args.second.now in
    c.in_ok-push.ensures.items
    ∙ ap₂ (λ l x. l ++ x ∷ []) c.loop-k.invariant
    (dearer-pair V W c.loop-k.k c.level_at-a.result c.level_at-b.result c.greater.result c.greater-in-loop-k.result c.level_at-a.ensures c.level_at-b.ensures c.greater.ensures c.greater-in-loop-k.ensures)
    ∙ sym (one-more (dearer V W) c.loop-k.k)

pub returns-clause-exact : goal.returns-clause-exact
returns-clause-exact c =
    let V = dearer (numbers_of c.args.first.now) (numbers_of c.args.second.now) in
    let most = c.max-most.ensures in
    let more = c.max-count.ensures in
    let one = ap length c.items.ensures in
    let other = ap length c.items-2.ensures in
    let end : c.loop-k.k ≡ c.max-count.result = omega arith in
    let some : 1 ≤ c.max-count.result = omega (arith, more) in
    let all : length c.args.first.now.levels ≤ c.max-count.result = omega (arith, most, more, one) in
    let rest : length c.args.second.now.levels ≤ c.max-count.result = omega (arith, most, more, other) in
    dearer-told c.args.first.now c.args.second.now _ c.max-count.result some all rest (c.of.ensures ∙ c.loop-k.invariant ∙ ap (levels_to V) end) c.greater-2.ensures
