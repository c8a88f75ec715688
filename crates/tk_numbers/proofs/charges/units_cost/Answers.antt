use Rattle.std.proofs.Common.{arith}
use Rattle.tk_numbers.proofs.Straight.{charge_step, charge_fits}
use Rattle.std.proofs.lemmas.Result.{err_from_is_err_and}
use Rattle.tk_paths.specs.Walks.{most_cycles}
use Rattle.tk_numbers.proofs.charges.units_cost.Goals as goal

pub loop-preserved : goal.loop-preserved
loop-preserved c = record {
  near = let old = c.loop.invariant.near in let near = c.behind-at.ensures.near in omega (arith, old, near);
  exact =
      charge_step c.args.image.now c.args.costs.now c.args.count c.loop.counter c.loop.at c.behind-at.result c.loop.total c.in_ok-total.total
      c.extra.result c.unit_cost.result _ c.loop-test.true c.in_ok-total.ensures.exact c.extra.ensures.exact c.unit_cost.ensures.exact
      c.behind-at.ensures.place c.loop.invariant.exact;
}

pub returns-in_err-total-clause-fits : goal.returns-in_err-total-clause-fits
returns-in_err-total-clause-fits c = λ h.
    let p = err_from_is_err_and c.from_residual.result c.from_residual.ensures.1 in
    rw (p.1, p.2) (c.in_err-total.ensures.fits
    (charge_fits c.args.image.now c.args.costs.now c.args.count c.loop.counter c.loop.at c.loop.total c.extra.result c.unit_cost.result _ most_cycles c.loop-test.true
    c.extra.ensures.exact c.unit_cost.ensures.exact c.loop.invariant.exact h))
