use Rattle.std.proofs.Common.{None, slice_index_or, ap, ◌∙◌}
use Rattle.tk_paths.proofs.LevelLaws.{level-none, level-read}
use Rattle.tk_paths.proofs.levels.level_at.Goals as goal

pub returns-then-count-eq0 : goal.returns-then-count-eq0
returns-then-count-eq0 c = level-none c.args.levels.now c.items-all.result.now c.args.k c.items-all.ensures c.if-count-eq0.true

pub returns : goal.returns
returns c =
    ap (λ i. slice_index_or c.items-all.result.now i (None, None)) c.min.ensures
    ∙ level-read c.args.levels.now c.items-all.result.now c.args.k c.items-all.ensures
