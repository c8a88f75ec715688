use Rattle.std.proofs.Common.{◌≡◌, drop}
use Rattle.pt_base.specs.Reading.{past_all_at}
use Rattle.pt_base.proofs.read.past_all.Given as goal

abbrev pub invariant-loop-byte : goal.invariant-loop-byte
invariant-loop-byte l = past_all_at (drop l.byte-index l.front) l.rest ≡ past_all_at l.front l.bytes
