use Rattle.std.proofs.Common.{◌∙◌, ◌++◌, [], ◌∷◌, None, Some, refl, ap}
use Rattle.tk_threads.proofs.Begun.{ended_is}
use Rattle.tk_threads.proofs.starts.ended.Goals as goal

pub returns-clause-exact : goal.returns-clause-exact
returns-clause-exact c =
    ended_is c.args.image.now c.args.costs.now (record { value = None; levels = c.of.result }) refl
    (c.of.ensures ∙ c.in_ok-push.ensures.items ∙ ap (λ l. l ++ (None, Some c.cost.result) ∷ []) c.new-levels.ensures.items
    ∙ ap (λ n. (None, Some n) ∷ []) c.cost.ensures.cost)
