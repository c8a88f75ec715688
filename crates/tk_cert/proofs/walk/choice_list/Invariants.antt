use Rattle.std.proofs.Common.{◌≡◌, ◌-◌}
use Rattle.pt_base.specs.Reading.{many_at}
use Rattle.pt_base.proofs.Loop.{with_front}
use Rattle.tk_cert.specs.Reading.{choice_at}
use Rattle.tk_cert.proofs.walk.choice_list.Given as goal

abbrev pub invariant-loop : goal.invariant-loop
invariant-loop l = with_front l.values.items (many_at choice_at (l.count - l.counter) l.rest) ≡ many_at choice_at l.count l.bytes
