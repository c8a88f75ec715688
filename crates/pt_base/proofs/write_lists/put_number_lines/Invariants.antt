use Rattle.std.proofs.Common.{◌≡◌, ◌++◌, drop}
use Rattle.pt_base.specs.Spelling.{each, number_text}
use Rattle.pt_base.proofs.write_lists.put_number_lines.Given as goal

abbrev pub invariant-loop-value : goal.invariant-loop-value
invariant-loop-value l = l.out.items ++ each (number_text 10) (drop l.value-index l.values) ≡ l.fn.out.items ++ each (number_text 10) l.values
