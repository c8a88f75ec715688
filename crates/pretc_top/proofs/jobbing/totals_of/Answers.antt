use Rattle.std.proofs.Common.{length, ap, ◌∙◌}
use Rattle.mb_core.specs.Machine.{fresh}
use Rattle.pretc_top.proofs.Jobs.{loaded_is_fresh, loaded_inputs, loaded_outputs, loaded_ends, loaded_sum, loaded_worst}
use Rattle.pretc_top.proofs.jobbing.totals_of.Goals as goal

pub sum_ticks-requires-clause-fresh : goal.sum_ticks-requires-clause-fresh
sum_ticks-requires-clause-fresh c = loaded_is_fresh _ _ _ (c.in_ok-bounded.ensures.machine ∙ ap (fresh c.args.image.now) c.unit_costs.ensures)

pub sum_ticks-requires-clause-inputs : goal.sum_ticks-requires-clause-inputs
sum_ticks-requires-clause-inputs c = loaded_inputs _ _ _ (c.in_ok-bounded.ensures.machine ∙ ap (fresh c.args.image.now) c.unit_costs.ensures) _ (ap length c.deref_mut.ensures.value ∙ c.in_ok-bounded.ensures.row)

pub sum_ticks-requires-clause-outputs : goal.sum_ticks-requires-clause-outputs
sum_ticks-requires-clause-outputs c = loaded_outputs _ _ _ (c.in_ok-bounded.ensures.machine ∙ ap (fresh c.args.image.now) c.unit_costs.ensures) _ (ap length c.deref_mut-2.ensures.value ∙ c.in_ok-bounded.ensures.outputs)

pub sum_ticks-requires-clause-ended : goal.sum_ticks-requires-clause-ended
sum_ticks-requires-clause-ended c = loaded_ends _ _ _ (c.in_ok-bounded.ensures.machine ∙ ap (fresh c.args.image.now) c.unit_costs.ensures) _ c.requires.ended

pub returns-clause-sum : goal.returns-clause-sum
returns-clause-sum c = loaded_sum _ _ _ (c.in_ok-bounded.ensures.machine ∙ ap (fresh c.args.image.now) c.unit_costs.ensures) _ _ c.sum_ticks.ensures.sum

pub returns-clause-worst : goal.returns-clause-worst
returns-clause-worst c = loaded_worst _ _ _ (c.in_ok-bounded.ensures.machine ∙ ap (fresh c.args.image.now) c.unit_costs.ensures) _ _ c.sum_ticks.ensures.worst
