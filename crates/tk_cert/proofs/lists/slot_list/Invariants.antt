use Rattle.std.proofs.Common.{◌≡◌, ◌-◌}
use Rattle.pt_base.specs.Reading.{many_at}
use Rattle.pt_base.proofs.Loop.{with_front}
use Rattle.tk_cert.specs.Reading.{slot_at}
use Rattle.tk_cert.proofs.lists.slot_list.Given as goal

abbrev pub invariant-loop : goal.invariant-loop
invariant-loop l = with_front l.values.items (many_at slot_at (l.count - l.counter) l.rest) ≡ many_at slot_at l.count l.bytes
