use Rattle.std.proofs.Common.{◌<◌, List, ℕ, length, sym, subst}
use Rattle.std.specs.List.{AllByRecursion}
use Rattle.tk_walk.proofs.Lines.{lines-of}
use Rattle.tk_walk.proofs.Resting.{bare, no-pause, other-pause, pauses}
use Rattle.tk_walk.proofs.configuration.pause_in.Goals as goal

pub returns-in_default : goal.returns-in_default
returns-in_default c = no-pause c.args.image.now c.args.states.now c.args.s c.args.unit.now c.requires.building c.requires.ready c.args.at c.requires.state c.in_default.ensures c.args.unit.now

pub returns-then-point-s : goal.returns-then-point-s
returns-then-point-s c = other-pause c.args.image.now c.args.states.now c.args.s c.args.unit.now c.requires.building c.requires.ready c.args.at c.requires.state c.args.listing.now.pauses c.in-Some.i c.index-pauses-i.result c.requires.listing.pauses c.in-Some.ensures (rw c.pauses.ensures at c.index-pauses-i.is) c.if-point-s.true c.args.unit.now

pub enter_all-requires-clause-bare : goal.enter_all-requires-clause-bare
enter_all-requires-clause-bare c = bare c.args.image.now c.args.states.now c.args.s c.args.unit.now c.requires.building c.requires.ready

pub enter_all-requires-clause-lines : goal.enter_all-requires-clause-lines
enter_all-requires-clause-lines c = subst (λ (ns : List ℕ). AllByRecursion (λ j. j < length c.args.image.now.aborts) ns) (sym c.items.ensures) (lines-of c.args.image.now c.args.image.now.pauses c.in-Some.i c.index-pauses-i.result c.ranges-2.ensures.pauses.1 c.in-Some.ensures.0 (rw c.pauses.ensures at c.index-pauses-i.is))

pub returns : goal.returns
returns c = pauses c.args.image.now c.args.states.now c.args.s c.args.unit.now c.requires.building c.requires.ready c.args.at c.requires.state c.args.listing.now.pauses c.in-Some.i c.index-pauses-i.result c.requires.listing.pauses c.in-Some.ensures (rw c.pauses.ensures at c.index-pauses-i.is) c.enter_all.new.unit c.pause.new.self c.pause.result c.if-point-s.false (lines-of c.args.image.now c.args.image.now.pauses c.in-Some.i c.index-pauses-i.result c.ranges-2.ensures.pauses.1 c.in-Some.ensures.0 (rw c.pauses.ensures at c.index-pauses-i.is)) (rw c.items.ensures at c.enter_all.ensures.entered) c.pause.ensures.call
