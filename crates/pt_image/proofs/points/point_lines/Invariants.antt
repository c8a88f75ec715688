use Rattle.std.proofs.Common.{◌≡◌, ◌-◌}
use Rattle.pt_base.specs.Reading.{many_at}
use Rattle.pt_base.proofs.Loop.{with_front}
use Rattle.pt_image.specs.Reading.{point_at}
use Rattle.pt_image.proofs.points.point_lines.Given as goal

abbrev pub invariant-loop : goal.invariant-loop
invariant-loop l = with_front l.values.items (many_at (point_at l.code l.slots l.aborts) (l.count - l.counter) l.rest) ≡ many_at (point_at l.code l.slots l.aborts) l.count l.bytes
