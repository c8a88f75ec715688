use Rattle.std.proofs.Common.{◌≡◌, ℕ, min, List, [], ◌∷◌, ◌++◌, ap, ◌∙◌, add-one}
use Rattle.pc_rules.specs.Nests.{function_height}
use Rattle.pc_rules.proofs.Each.{one_more}
use Rattle.pc_rules.proofs.Tall.{height_bounded}
use Rattle.pc_rules.proofs.heights.height_of_each.Goals as goal

pub loop-f-preserved : goal.loop-f-preserved
loop-f-preserved c =
    let known : List ℕ = c.loop-f.known.items in
    let height : c.height-one.result ≡ min 17 (function_height known c.f-item.result) = c.height-one.ensures ∙ ap (λ k. min 17 (function_height k c.f-item.result)) c.deref.ensures.value in
    c.in_ok-push.ensures.items ∙ ap (λ n. known ++ n ∷ []) height
    ∙ rw add-one (one_more 17 function_height (height_bounded 17) c.args.functions.now c.loop-f.f-index c.f-item.result known c.f-item.is c.loop-f-test.true c.loop-f.invariant)
