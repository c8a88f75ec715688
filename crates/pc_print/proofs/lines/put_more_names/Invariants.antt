use Rattle.std.proofs.Common.{◌≡◌, ◌++◌, drop}
use Rattle.pc_print.specs.Parts.{text}
use Rattle.pc_print.specs.Canonical.{named, more_listed}
use Rattle.pc_print.proofs.lines.put_more_names.Given as goal

abbrev pub invariant-loop-name : goal.invariant-loop-name
invariant-loop-name l = l.out.items ++ text (more_listed named (drop l.name-index l.rest)) ≡ l.fn.out.items ++ text (more_listed named l.rest)
