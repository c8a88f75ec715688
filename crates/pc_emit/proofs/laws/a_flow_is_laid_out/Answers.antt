use Rattle.pc_emit.proofs.Whole.{image_holds}
use Rattle.pc_emit.proofs.Numbered.{slots}
use Rattle.pc_emit.proofs.laws.a_flow_is_laid_out.Goals as goal

pub returns : goal.returns
returns c = λ f writing placing further sizes costs can counted priced.
    image_holds f writing placing further can (slots f can.laid.order can.laid.main) sizes counted costs priced
