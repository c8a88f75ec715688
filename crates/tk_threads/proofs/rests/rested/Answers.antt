use Rattle.std.proofs.Common.{◌≡◌, ◌+◌, ◌++◌, [], ◌∷◌, length, refl, ap, sym, ◌∙◌, arith}
use mathlib.Core.Path.{ap₂}
use Rattle.tk_paths.specs.Numbers.{rested}
use Rattle.tk_paths.specs.Levels.{levels_to}
use Rattle.tk_paths.proofs.LevelLaws.{no-levels, one-more}
use Rattle.tk_threads.proofs.RestLaws.{rested-pair, rested-told}
use Rattle.tk_threads.proofs.rests.rested.Goals as goal

pub loop-k-init : goal.loop-k-init
loop-k-init c = c.new-levels.ensures.items ∙ sym (no-levels (rested c.args.image.now c.args.costs.now c.args.aborts.now))

pub loop-k-preserved : goal.loop-k-preserved
loop-k-preserved c =
    let V = rested c.args.image.now c.args.costs.now c.args.aborts.now in
    c.in_ok-push.ensures.items
    ∙ ap₂ (λ l x. l ++ x ∷ []) c.loop-k.invariant
    (rested-pair c.args.image.now c.args.costs.now c.args.aborts.now c.loop-k.k c.handled-pair.result c.greater.result c.handled-pair.ensures.pause c.handled-pair.ensures.end c.greater.ensures)
    ∙ sym (one-more V c.loop-k.k)

pub returns-clause-exact : goal.returns-clause-exact
returns-clause-exact c =
    let V = rested c.args.image.now c.args.costs.now c.args.aborts.now in
    let end : c.loop-k.k ≡ length c.args.aborts.now + 1 = omega arith in
    rested-told c.args.image.now c.args.costs.now c.args.aborts.now _ (c.of.ensures ∙ c.loop-k.invariant ∙ ap (levels_to V) end) refl
