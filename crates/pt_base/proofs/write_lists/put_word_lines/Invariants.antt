use Rattle.std.proofs.Common.{◌≡◌, ◌++◌, drop}
use Rattle.pt_base.specs.Spelling.{each, word_text}
use Rattle.pt_base.proofs.write_lists.put_word_lines.Given as goal

abbrev pub invariant-loop-value : goal.invariant-loop-value
invariant-loop-value l = l.out.items ++ each word_text (drop l.value-index l.values) ≡ l.fn.out.items ++ each word_text l.values
