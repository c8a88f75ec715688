use Rattle.std.proofs.Common.{◌≡◌, drop}
use Rattle.toml.specs.View.{table_view}
use Rattle.tk_cert.specs.CostTables.{wrong}
use Rattle.tk_cert.proofs.costs.first_wrong.Given as goal

abbrev pub invariant-loop-class : goal.invariant-loop-class
invariant-loop-class l = wrong (table_view l.table) l.classes ≡ wrong (table_view l.table) (drop l.class-index l.classes)
