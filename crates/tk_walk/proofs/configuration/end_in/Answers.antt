use Rattle.tk_walk.proofs.Resting.{ends}
use Rattle.tk_walk.proofs.configuration.end_in.Goals as goal

pub returns : goal.returns
returns c = ends c.args.image.now c.args.states.now c.args.s c.args.unit.now c.requires.building c.requires.ready c.finish.result c.finish.new.self c.requires.state c.finish.ensures.call
