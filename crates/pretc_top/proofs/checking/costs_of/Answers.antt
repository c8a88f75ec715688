use Rattle.std.proofs.Common.{ℕ, List, Option, None, Result, Err, sym, ap, subst, ◌∙◌}
use Rattle.tk_cert.specs.declared.costs.CostFault.{CostFault}
use Rattle.tk_cert.specs.CostTables.{Reads}
use Rattle.pretc_run.specs.declared.endings.Ending.TheVariants.{BadCosts, BadCost}
use Rattle.pretc_top.specs.Check.{CostsRead, unit_costs, table_costs, CostsFail, no_document, missing_class, wrong_cost, unknown_key, costs_memory}
use Rattle.pretc_top.proofs.checking.costs_of.Goals as goal

pub returns-in-None-clause-read : goal.returns-in-None-clause-read
returns-in-None-clause-read c =
    let P : Option (List ℕ) → Type 0 = λ o. CostsRead o c.unit_costs.result in
    let Q : List ℕ → Type 0 = λ costs. CostsRead None costs in
    subst P (sym c.in-None.is) (subst Q (sym c.unit_costs.ensures) unit_costs)

pub returns-in-Ok-clause-read : goal.returns-in-Ok-clause-read
returns-in-Ok-clause-read c =
    let P : Option (List ℕ) → Type 0 = λ o. CostsRead o c.in-Ok.costs in
    let R : Result (List ℕ) CostFault → Type 0 = λ r. Reads c.in-Some.text r in
    subst P (sym c.in-Some.is) (table_costs c.in-Some.text c.in-Ok.costs (subst R c.in-Ok.is c.read_costs.ensures.reads))

pub returns-in-Err-Form-clause-failed : goal.returns-in-Err-Form-clause-failed
returns-in-Err-Form-clause-failed c =
    let P : Option (List ℕ) → Type 0 = λ o. CostsFail o (BadCosts 1) in
    let R : Result (List ℕ) CostFault → Type 0 = λ r. Reads c.in-Some.text r in
    subst P (sym c.in-Some.is) (no_document c.in-Some.text (subst R (c.in-Err-Form.is ∙ ap Err c.in-Err-Form.field-0-is) c.read_costs.ensures.reads))

pub returns-in-Err-Missing-clause-failed : goal.returns-in-Err-Missing-clause-failed
returns-in-Err-Missing-clause-failed c =
    let P : Option (List ℕ) → Type 0 = λ o. CostsFail o (BadCost 2 c.in-Err-Missing.class) in
    let R : Result (List ℕ) CostFault → Type 0 = λ r. Reads c.in-Some.text r in
    subst P (sym c.in-Some.is) (missing_class c.in-Some.text c.in-Err-Missing.class (subst R (c.in-Err-Missing.is ∙ ap Err c.in-Err-Missing.field-0-is) c.read_costs.ensures.reads))

pub returns-in-Err-Range-clause-failed : goal.returns-in-Err-Range-clause-failed
returns-in-Err-Range-clause-failed c =
    let P : Option (List ℕ) → Type 0 = λ o. CostsFail o (BadCost 3 c.in-Err-Range.class) in
    let R : Result (List ℕ) CostFault → Type 0 = λ r. Reads c.in-Some.text r in
    subst P (sym c.in-Some.is) (wrong_cost c.in-Some.text c.in-Err-Range.class (subst R (c.in-Err-Range.is ∙ ap Err c.in-Err-Range.field-0-is) c.read_costs.ensures.reads))

pub returns-in-Err-Unknown-clause-failed : goal.returns-in-Err-Unknown-clause-failed
returns-in-Err-Unknown-clause-failed c =
    let P : Option (List ℕ) → Type 0 = λ o. CostsFail o (BadCosts 4) in
    let R : Result (List ℕ) CostFault → Type 0 = λ r. Reads c.in-Some.text r in
    subst P (sym c.in-Some.is) (unknown_key c.in-Some.text (subst R (c.in-Err-Unknown.is ∙ ap Err c.in-Err-Unknown.field-0-is) c.read_costs.ensures.reads))

pub returns-in-Err-Memory-clause-failed : goal.returns-in-Err-Memory-clause-failed
returns-in-Err-Memory-clause-failed c = costs_memory c.args.text.now
