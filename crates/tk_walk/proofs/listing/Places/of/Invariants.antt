use Rattle.std.proofs.Common.{◌≡◌, ◌<◌, ℕ, slice_index_or}
use Rattle.tk_walk.specs.Listing.{place_at}
use Rattle.tk_walk.proofs.listing.Places.of.Given as goal

abbrev pub invariant-loop-i : goal.invariant-loop-i
invariant-loop-i l = (j : ℕ) → j < l.i → slice_index_or l.places (place_at l.points j) 0 ≡ j
