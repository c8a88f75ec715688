use Rattle.std.proofs.Common.{◌≡◌, ◌++◌, drop}
use Rattle.pc_print.specs.Parts.{text}
use Rattle.pc_print.specs.Canonical.{statements}
use Rattle.pc_print.proofs.statements.+put_statement.Given as goal

abbrev pub invariant-put_statements-loop-s : goal.invariant-put_statements-loop-s
invariant-put_statements-loop-s l = l.out.items ++ text (statements l.level (drop l.s-index l.all)) ≡ l.fn.out.items ++ text (statements l.level l.all)
