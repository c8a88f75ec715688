use Rattle.std.proofs.Common.{arith}
use Rattle.std.proofs.lemmas.Result.{err_from_is_err_and}
use Rattle.tk_paths.specs.Programs.{pair_from}
use Rattle.tk_threads.proofs.SmallLaws.{end-small}
use Rattle.tk_threads.proofs.sums.all_ends.Goals as goal

pub returns-in_err-total-clause-fits : goal.returns-in_err-total-clause-fits
returns-in_err-total-clause-fits c = λ h.
    let p = err_from_is_err_and c.from_residual.result c.from_residual.ensures.1 in
    rw (p.1, p.2) (c.in_err-total.ensures.fits
    (end-small (pair_from c.args.first c.args.starts.now) c.args.low c.loop-left.left c.args.count c.start_of-pair.result.1 c.loop-left.total (omega arith) c.loop-left.invariant.low c.start_of-pair.ensures.end c.loop-left.invariant.told h))
