use Rattle.pc_regs.proofs.Running.{run_laws}
use Rattle.pc_regs.proofs.laws.words_do_the_steps.Goals as goal

pub returns : goal.returns
returns c = λ p image f room has. run_laws p image room f has
