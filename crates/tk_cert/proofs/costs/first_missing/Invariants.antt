use Rattle.std.proofs.Common.{◌≡◌, drop}
use Rattle.toml.specs.View.{table_view}
use Rattle.tk_cert.specs.CostTables.{missing}
use Rattle.tk_cert.proofs.costs.first_missing.Given as goal

abbrev pub invariant-loop-class : goal.invariant-loop-class
invariant-loop-class l = missing (table_view l.table) l.classes ≡ missing (table_view l.table) (drop l.class-index l.classes)
