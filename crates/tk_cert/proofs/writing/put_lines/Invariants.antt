use Rattle.std.proofs.Common.{◌≡◌, ◌++◌, drop}
use Rattle.pt_base.specs.Spelling.{each}
use Rattle.tk_cert.specs.Text.{line_text}
use Rattle.tk_cert.proofs.writing.put_lines.Given as goal

abbrev pub invariant-loop-line : goal.invariant-loop-line
invariant-loop-line l = l.out.items ++ each line_text (drop l.line-index l.lines) ≡ l.fn.out.items ++ each line_text l.lines
