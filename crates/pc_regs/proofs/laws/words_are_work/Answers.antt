use Rattle.pc_regs.proofs.Works.{writes_work}
use Rattle.pc_regs.proofs.laws.words_are_work.Goals as goal

pub returns : goal.returns
returns c = writes_work
