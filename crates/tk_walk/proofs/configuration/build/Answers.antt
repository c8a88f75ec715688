use Rattle.std.proofs.Common.{◌<◌, ◌-◌, sym, ◌∙◌, arith}
use Rattle.tk_walk.specs.Building.{resting}
use Rattle.tk_walk.proofs.Beginning.{job-ready, no-job, fewer, further}
use Rattle.tk_walk.proofs.configuration.build.Goals as goal

pub slots-smaller : goal.slots-smaller
slots-smaller c =
    let f = further c.args.image.now c.args.states.now c.in-Some.s c.slots.unit c.rest_in.new.unit c.slots.invariant.building c.in-Some.ensures.ready c.if-not-rest_in.ensures in
    let few : resting c.slots.unit.tree < 64 = fewer c.slots.unit.tree c.sound.ensures.tree (job-ready c.slots.unit.tree c.in-Some.s (sym c.in-Some.is ∙ c.next_job.ensures.first)) in
    let small : 64 - resting c.rest_in.new.unit.tree < 64 - resting c.slots.unit.tree = omega (arith, f.more) in
    small

pub slots-preserved : goal.slots-preserved
slots-preserved c =
    let f = further c.args.image.now c.args.states.now c.in-Some.s c.slots.unit c.rest_in.new.unit c.slots.invariant.building c.in-Some.ensures.ready c.if-not-rest_in.ensures in
    record { building = f.building; fronts = λ t whole. f.fronts t whole (c.slots.invariant.fronts t whole) }

pub returns : goal.returns
returns c = (c.slots.invariant.building, no-job c.slots.unit.tree (sym c.in_default.is ∙ c.next_job.ensures.first), c.slots.invariant.fronts)
