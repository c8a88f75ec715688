use Rattle.std.proofs.Common.{◌≡◌, ◌≤◌, ◌-◌, length}
use Rattle.std.specs.Io.KnownBytes.{Keeps, prepend_known}
use Rattle.pt_trace.proofs.gather.gather.Given as goal

-- nothing that was unread is lost
abbrev pub invariant-loop-at : goal.invariant-loop-at
invariant-loop-at g l =
    Keeps (prepend_known l.fn.kept (g.I.Source.told l.fn.input).left) (prepend_known l.kept (g.I.Source.told l.input).left)
    × ((g.I.Source.told l.input).faults ≡ (g.I.Source.told l.fn.input).faults)
    × (length l.fn.kept ≤ 2048 → length l.kept ≤ 2048)

abbrev pub decreases-loop-at : goal.decreases-loop-at
decreases-loop-at g l = 2048 - length l.kept
