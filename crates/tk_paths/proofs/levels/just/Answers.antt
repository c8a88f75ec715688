use Rattle.std.proofs.Common.{◌++◌, [], ◌∷◌, Some, refl, ap, ◌∙◌}
use Rattle.tk_paths.proofs.LevelLaws.{just-told}
use Rattle.tk_paths.proofs.levels.just.Goals as goal

pub returns-clause-exact : goal.returns-clause-exact
returns-clause-exact c =
    just-told _ c.args.cycles
    (c.of.ensures ∙ c.in_ok-push.ensures.items ∙ ap (λ l. l ++ (Some c.args.cycles, Some c.args.cycles) ∷ []) c.new-levels.ensures.items)
    refl
