use Rattle.pc_lower.proofs.Lasting.{loops_kept, loops_last}
use Rattle.pc_lower.proofs.laws.rules_on_loops_hold_of_the_tree.Goals as goal

pub returns-clause-kept : goal.returns-clause-kept
returns-clause-kept c = λ t within. loops_kept t within

pub returns-clause-last : goal.returns-clause-last
returns-clause-last c = λ t typed within. loops_last t typed within
