use Rattle.pc_emit.proofs.Programs.{holds}
use Rattle.pc_emit.proofs.Numbered.{slots}
use Rattle.pc_emit.proofs.laws.a_laid_flow_is_a_program.Goals as goal

pub returns : goal.returns
returns c = λ f writing placing further can. holds f writing placing further can (slots f can.laid.order can.laid.main)
