use Rattle.pretc_top.specs.Check.{no_table, table_held}
use Rattle.pretc_top.proofs.Judging.{not_true}
use Rattle.pretc_top.proofs.checking.load_costs.Goals as goal

pub returns-then-is_unit-clause-held : goal.returns-then-is_unit-clause-held
returns-then-is_unit-clause-held g c = no_table (c.is_unit.ensures.0 c.if-is_unit.true)

pub returns-in-Ok-clause-held : goal.returns-in-Ok-clause-held
returns-in-Ok-clause-held g c = table_held c.in-Ok.text (λ e. not_true c.is_unit.result c.if-is_unit.false (c.is_unit.ensures.1 e)) c.in-Ok.ensures.held
