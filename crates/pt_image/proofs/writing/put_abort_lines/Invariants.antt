use Rattle.std.proofs.Common.{◌≡◌, ◌++◌, drop}
use Rattle.pt_base.specs.Spelling.{each}
use Rattle.pt_image.specs.Text.{abort_text}
use Rattle.pt_image.proofs.writing.put_abort_lines.Given as goal

abbrev pub invariant-loop-line : goal.invariant-loop-line
invariant-loop-line l = l.out.items ++ each abort_text (drop l.line-index l.lines) ≡ l.fn.out.items ++ each abort_text l.lines
