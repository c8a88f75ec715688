use Rattle.std.proofs.Common.{◌≡◌, ◌++◌, drop}
use Rattle.pt_base.specs.Spelling.{each, blank_number}
use Rattle.pt_base.proofs.write_lists.put_blank_numbers.Given as goal

abbrev pub invariant-loop-value : goal.invariant-loop-value
invariant-loop-value l = l.out.items ++ each blank_number (drop l.value-index l.values) ≡ l.fn.out.items ++ each blank_number l.values
