use Rattle.std.proofs.Common.{◌≡◌, ℕ, min, List, [], ◌∷◌, ◌++◌, ap, ◌∙◌, add-one, rules}
use Rattle.pc_rules.specs.Weights.{function_passage}
use Rattle.pc_rules.proofs.Each.{one_more}
use Rattle.pc_rules.proofs.Passages.{passage_bounded}
use Rattle.pc_rules.proofs.weights.passage_of_each.Goals as goal

pub loop-f-preserved : goal.loop-f-preserved
loop-f-preserved c =
    let known : List ℕ = c.loop-f.known.items in
    let words : c.passage_of-words.result ≡ min 2000001 (function_passage known c.f-item.result) = search rules in
    c.in_ok-push.ensures.items ∙ ap (λ n. known ++ n ∷ []) words
    ∙ rw add-one (one_more 2000001 function_passage (passage_bounded 2000001) c.args.functions.now c.loop-f.f-index c.f-item.result known c.f-item.is c.loop-f-test.true c.loop-f.invariant)
