use Rattle.std.proofs.Common.{ap, ◌++◌}
use Rattle.tk_paths.specs.Kinds.{asked_by_aborts, asked_by_word}
use Rattle.tk_shape.proofs.Marking.{more_append, more_as}
use Rattle.tk_shape.proofs.asked.mark_line.Goals as goal

pub returns : goal.returns
returns c =
    let image = c.args.image.now in
    let line = c.args.line.now in
    more_as _ _ _ _ (ap (λ w. asked_by_aborts image line ++ asked_by_word image line w) c.word_in.ensures) (more_append _ _ _ _ _ c.mark_line_aborts.ensures c.mark_word.ensures)
