use Rattle.std.proofs.Common.{◌≡◌, ◌≤◌, ℕ, length, map, drop, reverse}
use Rattle.pc_lower.specs.Trees.{read}
use Rattle.pc_emit.specs.Sections.{is_among, used_calls}
use Rattle.pc_emit.specs.Made.{calls_from}
use Rattle.pc_emit.proofs.used.calls.Given as goal

abbrev pub invariant-loop-number : goal.invariant-loop-number
invariant-loop-number l = record {
  within : l.number ≤ length l.bodies;
  called : reverse l.called.items ≡ calls_from l.slots l.number (map read (drop l.number l.bodies));
  calls : (k : ℕ) → is_among k l.calls.items ≡ is_among k (used_calls l.slots l.number (map read (drop l.number l.bodies)));
}

abbrev pub decreases-loop-number : goal.decreases-loop-number
decreases-loop-number l = l.number
