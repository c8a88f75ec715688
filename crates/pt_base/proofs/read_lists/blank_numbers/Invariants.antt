use Rattle.std.proofs.Common.{◌≡◌, ◌-◌}
use Rattle.pt_base.specs.Reading.{many_at, blank_number_at}
use Rattle.pt_base.proofs.Loop.{with_front}
use Rattle.pt_base.proofs.read_lists.blank_numbers.Given as goal

abbrev pub invariant-loop : goal.invariant-loop
invariant-loop l = with_front l.values.items (many_at (blank_number_at l.limit) (l.count - l.counter) l.rest) ≡ many_at (blank_number_at l.limit) l.count l.bytes
