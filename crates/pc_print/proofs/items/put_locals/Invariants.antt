use Rattle.std.proofs.Common.{◌≡◌, ◌++◌, drop}
use Rattle.pc_print.specs.Parts.{text}
use Rattle.pc_print.specs.Canonical.{locals}
use Rattle.pc_print.proofs.items.put_locals.Given as goal

abbrev pub invariant-loop-name : goal.invariant-loop-name
invariant-loop-name l = l.out.items ++ text (locals (drop l.name-index l.all)) ≡ l.fn.out.items ++ text (locals l.all)
