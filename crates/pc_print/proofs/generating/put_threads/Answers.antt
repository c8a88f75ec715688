use Rattle.pc_print.specs.Generated.{thread}
use Rattle.pc_print.proofs.Joining.{counted-more}
use Rattle.pc_print.proofs.generating.put_threads.Goals as goal

pub loop-i-preserved : goal.loop-i-preserved
loop-i-preserved c =
    counted-more thread c.loop-i.i c.loop-i.out.items c.put_thread.new.out.items c.args.out.now.items c.in_ok-put_thread.ensures c.loop-i.invariant
