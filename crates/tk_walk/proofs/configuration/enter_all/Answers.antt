use Rattle.tk_walk.proofs.Entering.{entering}
use Rattle.tk_walk.proofs.configuration.enter_all.Goals as goal

pub loop-number-preserved : goal.loop-number-preserved
loop-number-preserved c =
    let i = c.loop-number.invariant in
    let e = entering c.args.image.now c.args.s c.args.stack.now c.loop-number.number-index c.args.unit.now c.loop-number.unit c.enter.new.self c.enter.result (record { rest = i.rest; tree = i.tree; ready = i.ready; depth = i.depth }) c.loop-number-test.true c.requires.few c.requires.links c.requires.counters
    (rw c.aborts.ensures at c.enter.ensures.call) c.enter.ensures.ready in
    record { rest = e.rest; tree = e.tree; ready = e.ready; depth = e.depth }
