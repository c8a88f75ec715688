use Rattle.tk_walk.proofs.Listings.{noted}
use Rattle.tk_walk.proofs.listing.Places.of.Goals as goal

pub loop-i-preserved : goal.loop-i-preserved
loop-i-preserved c = noted c.args.points.now c.loop-i.places c.note.new.self c.loop-i.i c.index-points-i.result c.requires.distinct c.loop-i-test.true c.index-points-i.is c.note.ensures.here c.note.ensures.others c.loop-i.invariant
