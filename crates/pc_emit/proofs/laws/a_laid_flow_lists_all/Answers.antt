use Rattle.pc_emit.proofs.Eots.{lists_all}
use Rattle.pc_emit.proofs.Numbered.{slots}
use Rattle.pc_emit.proofs.laws.a_laid_flow_lists_all.Goals as goal

pub returns : goal.returns
returns c = λ f writing placing further can. lists_all f writing placing further can (slots f can.laid.order can.laid.main)
