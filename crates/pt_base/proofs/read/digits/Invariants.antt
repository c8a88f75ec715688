use Rattle.std.proofs.Common.{◌≡◌, ◌<◌, length}
use Rattle.pt_base.specs.Reading.{digits_at}
use Rattle.pt_base.proofs.read.digits.Given as goal

abbrev pub invariant-loop-rest : goal.invariant-loop-rest
invariant-loop-rest l = (digits_at l.limit l.value l.rest ≡ digits_at l.limit 0 l.bytes) × (l.value < l.limit)

abbrev pub decreases-loop-rest : goal.decreases-loop-rest
decreases-loop-rest l = length l.rest
