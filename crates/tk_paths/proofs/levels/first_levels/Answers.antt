use Rattle.std.proofs.Common.{◌++◌, [], ◌∷◌, sym, ◌∙◌}
use mathlib.Core.Path.{ap₂}
use Rattle.tk_paths.specs.Levels.{numbers_of}
use Rattle.tk_paths.proofs.LevelLaws.{no-levels, one-more}
use Rattle.tk_paths.proofs.levels.first_levels.Goals as goal

pub loop-k-init : goal.loop-k-init
loop-k-init c = c.new-all.ensures.items ∙ sym (no-levels (numbers_of c.args.levels.now))

pub loop-k-preserved : goal.loop-k-preserved
loop-k-preserved c =
    c.in_ok-push.ensures.items ∙ ap₂ (λ l x. l ++ x ∷ []) c.loop-k.invariant c.level_at.ensures ∙ sym (one-more (numbers_of c.args.levels.now) c.loop-k.k)
