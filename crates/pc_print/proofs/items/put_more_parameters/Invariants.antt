use Rattle.std.proofs.Common.{◌≡◌, ◌++◌, drop}
use Rattle.pc_print.specs.Parts.{text}
use Rattle.pc_print.specs.Canonical.{declared, more_listed}
use Rattle.pc_print.proofs.items.put_more_parameters.Given as goal

abbrev pub invariant-loop-name : goal.invariant-loop-name
invariant-loop-name l = l.out.items ++ text (more_listed declared (drop l.name-index l.rest)) ≡ l.fn.out.items ++ text (more_listed declared l.rest)
