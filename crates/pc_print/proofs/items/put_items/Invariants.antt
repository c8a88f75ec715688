use Rattle.std.proofs.Common.{◌≡◌, ◌++◌, drop}
use Rattle.pc_print.specs.Parts.{text}
use Rattle.pc_print.specs.Canonical.{items}
use Rattle.pc_print.proofs.items.put_items.Given as goal

abbrev pub invariant-loop-i : goal.invariant-loop-i
invariant-loop-i l = l.out.items ++ text (items (drop l.i-index l.all)) ≡ l.fn.out.items ++ text (items l.all)
