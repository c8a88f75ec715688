use Rattle.pc_meaning.proofs.Leaving.{push-turn}
use Rattle.pc_meaning.proofs.layout.push_words.Goals as goal

pub loop-turn-preserved : goal.loop-turn-preserved
loop-turn-preserved c =
    push-turn c.loop-turn.words.items c.push.new.self.items _ c.args.count c.loop-turn._turn _ c.loop-turn-test.true c.in_ok-push.ensures.items c.loop-turn.invariant
