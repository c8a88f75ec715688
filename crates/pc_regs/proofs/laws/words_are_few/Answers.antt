use Rattle.pc_regs.proofs.Counting.{steps_count, test_count}
use Rattle.pc_regs.proofs.laws.words_are_few.Goals as goal

pub returns : goal.returns
returns c = λ p. (steps_count p, test_count p)
