use Rattle.std.proofs.Common.{arith}
use Rattle.std.proofs.lemmas.Result.{err_from_is_err_and}
use Rattle.tk_paths.specs.Programs.{pair_from}
use Rattle.tk_threads.proofs.SmallLaws.{most-step, paused-step, pause-small, later-small, both-small}
use Rattle.tk_threads.proofs.sums.most_paused.Goals as goal

pub loop-left-preserved : goal.loop-left-preserved
loop-left-preserved c = record {
  low = (let l = c.loop-left.invariant.low in omega (arith, l));
  any =
      most-step (pair_from c.args.first c.args.starts.now) c.args.low c.loop-left.left c.args.count c.start_of-pair.result.0 c.start_of-pair.result.1 c.greater.result c.loop-left.most c.in_ok-most.most (omega arith) c.loop-left.invariant.low
      c.start_of-pair.ensures.pause c.start_of-pair.ensures.end c.greater.ensures c.loop-left.invariant.any c.in_ok-most.ensures.exact;
  told =
      paused-step (pair_from c.args.first c.args.starts.now) c.args.low c.loop-left.left c.args.count c.start_of-pair.result.0 c.start_of-pair.result.1 c.loop-left.most c.loop-left.paused c.in_ok-here.here c.in_ok-later.later c.greater-paused.result
      (omega arith) c.loop-left.invariant.low c.start_of-pair.ensures.pause c.start_of-pair.ensures.end c.loop-left.invariant.any c.loop-left.invariant.told
      c.in_ok-here.ensures.exact c.in_ok-later.ensures.exact c.greater-paused.ensures;
}

pub returns-in_err-here-clause-fits : goal.returns-in_err-here-clause-fits
returns-in_err-here-clause-fits c = λ h.
    let p = err_from_is_err_and c.from_residual.result c.from_residual.ensures.1 in
    rw (p.1, p.2) (c.in_err-here.ensures.fits
    (pause-small (pair_from c.args.first c.args.starts.now) c.args.low c.loop-left.left c.args.count c.start_of-pair.result.0 c.loop-left.most (omega arith) c.loop-left.invariant.low c.start_of-pair.ensures.pause c.loop-left.invariant.any h))

pub returns-in_err-later-clause-fits : goal.returns-in_err-later-clause-fits
returns-in_err-later-clause-fits c = λ h.
    let p = err_from_is_err_and c.from_residual-in_err-later.result c.from_residual-in_err-later.ensures.1 in
    rw (p.1, p.2) (c.in_err-later.ensures.fits
    (later-small (pair_from c.args.first c.args.starts.now) c.args.low c.loop-left.left c.args.count c.start_of-pair.result.1 c.loop-left.paused (omega arith) c.loop-left.invariant.low c.start_of-pair.ensures.end c.loop-left.invariant.told h))

pub returns-in_err-most-clause-fits : goal.returns-in_err-most-clause-fits
returns-in_err-most-clause-fits c = λ h.
    let p = err_from_is_err_and c.from_residual-in_err-most.result c.from_residual-in_err-most.ensures.1 in
    rw (p.1, p.2) (c.in_err-most.ensures.fits
    (both-small (pair_from c.args.first c.args.starts.now) c.args.low c.loop-left.left c.args.count c.start_of-pair.result.0 c.start_of-pair.result.1 c.greater.result c.loop-left.most (omega arith) c.loop-left.invariant.low
    c.start_of-pair.ensures.pause c.start_of-pair.ensures.end c.greater.ensures c.loop-left.invariant.any h))
