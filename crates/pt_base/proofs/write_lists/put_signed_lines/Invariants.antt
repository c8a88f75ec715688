use Rattle.std.proofs.Common.{◌≡◌, ◌++◌, drop}
use Rattle.pt_base.specs.Spelling.{each, signed_text}
use Rattle.pt_base.proofs.write_lists.put_signed_lines.Given as goal

abbrev pub invariant-loop-value : goal.invariant-loop-value
invariant-loop-value l = l.out.items ++ each signed_text (drop l.value-index l.values) ≡ l.fn.out.items ++ each signed_text l.values
