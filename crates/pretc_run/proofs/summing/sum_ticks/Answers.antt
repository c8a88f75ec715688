use Rattle.std.proofs.Common.{◌∙◌, arith}
use Rattle.pretc_run.proofs.Counting.{next_ends_at, counted_more_at, all_counted_at}
use Rattle.pretc_run.proofs.summing.sum_ticks.Goals as goal

pub count_tick-totals-requires-clause-ends : goal.count_tick-totals-requires-clause-ends
count_tick-totals-requires-clause-ends c =
    next_ends_at _ _ _ _ _ _ _ _ _ _ c.ticks.invariant.inputs c.ticks-test.true c.ticks.invariant.counted

pub ticks-preserved : goal.ticks-preserved
ticks-preserved c = record {
  few = omega (arith, c.ticks-test.true);
  inputs = c.count_tick-totals.ensures.same_row ∙ c.ticks.invariant.inputs;
  places = c.count_tick-totals.ensures.same_outputs ∙ c.ticks.invariant.places;
  counted = counted_more_at _ _ _ _ _ _ _ _ _ _ _ _ c.ticks.invariant.inputs c.ticks-test.true c.ticks.invariant.counted c.count_tick-totals.ensures.counts;
}

pub returns-clause-sum : goal.returns-clause-sum
returns-clause-sum c = (all_counted_at _ _ _ _ _ _ _ _ _ c.ticks-test.false c.ticks.invariant.counted).0

pub returns-clause-worst : goal.returns-clause-worst
returns-clause-worst c = (all_counted_at _ _ _ _ _ _ _ _ _ c.ticks-test.false c.ticks.invariant.counted).1
