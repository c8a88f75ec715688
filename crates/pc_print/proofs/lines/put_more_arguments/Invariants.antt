use Rattle.std.proofs.Common.{◌≡◌, ◌++◌, drop}
use Rattle.pc_print.specs.Parts.{text}
use Rattle.pc_print.specs.Canonical.{expression, more_listed}
use Rattle.pc_print.proofs.lines.put_more_arguments.Given as goal

abbrev pub invariant-loop-e : goal.invariant-loop-e
invariant-loop-e l = l.out.items ++ text (more_listed expression (drop l.e-index l.rest)) ≡ l.fn.out.items ++ text (more_listed expression l.rest)
