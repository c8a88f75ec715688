use Rattle.std.proofs.Common.{refl, ◌∙◌}
use Rattle.tk_paths.proofs.LevelLaws.{nothing-told}
use Rattle.tk_paths.proofs.levels.nothing.Goals as goal

pub returns : goal.returns
returns c = nothing-told _ (c.of.ensures ∙ c.new-none.ensures.items) refl
