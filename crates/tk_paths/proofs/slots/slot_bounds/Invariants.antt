use Rattle.std.proofs.Common.{◌≡◌, replicate, None}
use Rattle.tk_paths.proofs.slots.slot_bounds.Given as goal

abbrev pub invariant-loop : goal.invariant-loop
invariant-loop l = l.bounds.items ≡ replicate l.counter (None, None)
