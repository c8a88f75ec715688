use Rattle.pc_print.specs.Generated.{name}
use Rattle.pc_print.proofs.Joining.{counted-more}
use Rattle.pc_print.proofs.generating.put_names.Goals as goal

pub loop-i-preserved : goal.loop-i-preserved
loop-i-preserved c =
    counted-more name c.loop-i.i c.loop-i.out.items c.put_name.new.out.items c.args.out.now.items c.in_ok-put_name.ensures c.loop-i.invariant
