use Rattle.std.proofs.Common.{◌≡◌, ◌++◌, ◌-◌}
use Rattle.pc_print.specs.Parts.{blanks}
use Rattle.pc_print.proofs.lines.put_margin.Given as goal

abbrev pub invariant-loop-turn : goal.invariant-loop-turn
invariant-loop-turn l = l.out.items ++ blanks (l.level - l._turn) ≡ l.fn.out.items ++ blanks l.level
