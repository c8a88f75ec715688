use Rattle.std.proofs.Common.{arith}
use Rattle.tk_walk.proofs.Listings.{low_at}
use Rattle.tk_walk.proofs.listing.Places.find.Goals as goal

pub returns-then-place-ge-MOST_PLACES : goal.returns-then-place-ge-MOST_PLACES
returns-then-place-ge-MOST_PLACES c = λ i within e. absurd (omega (arith, low_at c.args.points.now i c.requires.low within))
