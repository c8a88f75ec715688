use Rattle.std.proofs.Common.{◌≡◌, length}
use Rattle.mb_core.proofs.Listings.{IsPart}
use Rattle.mb_core.proofs.tables.table_of.Given as goal

abbrev pub invariant-loop-i : goal.invariant-loop-i
invariant-loop-i l = record { size : length l.table.items ≡ l.size; part : IsPart l.i l.points l.table.items }
