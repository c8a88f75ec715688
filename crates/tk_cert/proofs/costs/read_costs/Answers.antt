use Rattle.std.proofs.Common.{rules, ◌≡◌, ℕ, List, Some, IsUtf8, subst}
use Rattle.toml.specs.View.{table_view}
use Rattle.toml.specs.Parse.{parse_document}
use Rattle.tk_cert.proofs.CostFaults.{judged}
use Rattle.tk_cert.proofs.costs.read_costs.Goals as goal

pub returns-in-Ok-clause-reads : goal.returns-in-Ok-clause-reads
returns-in-Ok-clause-reads c =
    let P : List ℕ → Type 0 = λ bytes. parse_document bytes ≡ Some (table_view c.in-Ok.table) in
    judged c.args.text.now (table_view c.in-Ok.table) c.judge.result
    (record { short = search rules; text = subst IsUtf8 c.bytes-2.ensures c.in-Ok.ensures.ok.0; parsed = subst P c.bytes-2.ensures c.in-Ok.ensures.ok.1 })
    c.judge.ensures
