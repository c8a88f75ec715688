use Rattle.std.proofs.Common.{get_or, arith}
use Rattle.std.proofs.lemmas.Option.{slice_get-get_or}
use Rattle.tk_shape.proofs.Indexed.{index_more}
use Rattle.tk_shape.proofs.index.index_of.Goals as goal

pub loop-number-preserved : goal.loop-number-preserved
loop-number-preserved c = λ place within.
    let points = c.args.points.now in
    let number = c.loop-number.number in
    let p = c.index-points-number.result in
    index_more points number (get_or points number p) place _ _ c.requires.distinct (slice_get-get_or points number p (omega arith)) (c.put.ensures place within) (c.loop-number.invariant place within)
