use Rattle.pc_meaning.proofs.Copying.{differ-more}
use Rattle.pc_meaning.proofs.cells.Cells.set.Goals as goal

pub invariant_of-self-2 : goal.invariant_of-self-2
invariant_of-self-2 c = rw (c.in_ok-push.ensures.items, c.set_word.ensures) (differ-more _ _ _ _ _ c.self.invariant)
