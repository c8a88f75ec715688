use Rattle.std.proofs.Common.{◌≤◌, ◌∙◌, ℕ, List, subst, sym}
use Rattle.std.specs.List.{All}
use Rattle.toml.specs.View.{table_view}
use Rattle.tk_cert.specs.CostTables.{classes}
use Rattle.tk_cert.proofs.CostFaults.{unknown_keys, at_unknown, at_costs, numbers_low}
use Rattle.tk_cert.proofs.costs.judge.Goals as goal

pub returns-then-some_other_key : goal.returns-then-some_other_key
returns-then-some_other_key c = at_unknown _ _ _ _ c.in_default.ensures c.in_default-first_wrong.ensures (c.if-some_other_key.ensures ∙ unknown_keys c.args.table.now.entries)

pub of-requires : goal.of-requires
of-requires c =
    let P : List ℕ → Type 0 = λ ns. All (λ n. 1 ≤ n) ns in
    subst P (sym c.all_costs-numbers.ensures) (numbers_low (table_view c.args.table.now) classes (sym c.in_default-first_wrong.ensures))

pub returns : goal.returns
returns c =
    at_costs _ _ _ _ _ c.in_default.ensures c.in_default-first_wrong.ensures (c.if-some_other_key.ensures ∙ unknown_keys c.args.table.now.entries)
    (c.of.ensures ∙ c.all_costs-numbers.ensures)
