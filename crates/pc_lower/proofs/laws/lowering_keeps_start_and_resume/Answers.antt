use Rattle.pc_lower.proofs.Whole.{is_lowered}
use Rattle.pc_lower.proofs.laws.lowering_keeps_start_and_resume.Goals as goal

pub returns : goal.returns
returns c = λ p fit. is_lowered p fit
