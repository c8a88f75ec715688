use Rattle.std.proofs.Common.{sym, ◌∙◌}
use Rattle.tk_paths.specs.Levels.{numbers_of}
use Rattle.tk_numbers.specs.Nexts.{nexts}
use Rattle.tk_paths.proofs.LevelLaws.{no-levels}
use Rattle.std.proofs.lemmas.Result.{err_from_is_err_and}
use Rattle.tk_numbers.proofs.LoopNumbers.{nexts_pause, nexts_end, nexts_value}
use Rattle.tk_numbers.proofs.nexts.next_levels.Goals as goal

pub loop-k-init : goal.loop-k-init
loop-k-init c = c.new-levels.ensures.items ∙ sym (no-levels (nexts c.args.next c.args.out c.args.weight (numbers_of c.args.behind.now)))

pub returns-in_err-pause-clause-fits : goal.returns-in_err-pause-clause-fits
returns-in_err-pause-clause-fits c = λ h.
    let p = err_from_is_err_and c.from_residual.result c.from_residual.ensures.1 in
    rw (p.1, p.2) (c.in_err-pause.ensures.fits
    (nexts_pause c.args.next c.args.out c.args.weight (numbers_of c.args.behind.now) c.loop-k.k c.level_at-pair.result c.level_at-pair.ensures h))

pub returns-in_err-end-clause-fits : goal.returns-in_err-end-clause-fits
returns-in_err-end-clause-fits c = λ h.
    let p = err_from_is_err_and c.from_residual-in_err-end.result c.from_residual-in_err-end.ensures.1 in
    rw (p.1, p.2) (c.in_err-end.ensures.fits
    (nexts_end c.args.next c.args.out c.args.weight (numbers_of c.args.behind.now) c.loop-k.k c.level_at-pair.result c.level_at-pair.ensures h))

pub returns-in_err-next_number-clause-fits : goal.returns-in_err-next_number-clause-fits
returns-in_err-next_number-clause-fits c = λ h.
    let p = err_from_is_err_and c.from_residual-in_err-next_number.result c.from_residual-in_err-next_number.ensures.1 in
    rw (p.1, p.2) (c.in_err-next_number.ensures.fits (nexts_value c.args.next c.args.out c.args.weight c.args.behind.now h))
