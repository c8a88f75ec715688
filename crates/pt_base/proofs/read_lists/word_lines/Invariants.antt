use Rattle.std.proofs.Common.{◌≡◌, ◌-◌}
use Rattle.pt_base.specs.Reading.{many_at, word_line_at}
use Rattle.pt_base.proofs.Loop.{with_front}
use Rattle.pt_base.proofs.read_lists.word_lines.Given as goal

abbrev pub invariant-loop : goal.invariant-loop
invariant-loop l = with_front l.values.items (many_at word_line_at (l.count - l.counter) l.rest) ≡ many_at word_line_at l.count l.bytes
