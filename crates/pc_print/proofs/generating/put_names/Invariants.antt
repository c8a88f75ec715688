use Rattle.std.proofs.Common.{◌≡◌, ◌++◌}
use Rattle.pc_print.specs.Generated.{counted, name}
use Rattle.pc_print.proofs.generating.put_names.Given as goal

abbrev pub invariant-loop-i : goal.invariant-loop-i
invariant-loop-i l = l.out.items ≡ l.initial.out.items ++ counted name l.i
