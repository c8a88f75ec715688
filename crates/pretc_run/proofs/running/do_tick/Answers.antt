use Rattle.pretc_run.proofs.Stepping.{trap_comes}
use Rattle.pretc_run.proofs.running.do_tick.Goals as goal

pub returns-in-Err-clause-comes : goal.returns-in-Err-clause-comes
returns-in-Err-clause-comes g c = trap_comes _ _ _ _ _ _ c.in-Err.trap _ _ _ _ c.in-Err.ensures.tick c.say.ensures
