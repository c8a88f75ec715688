use Rattle.tk_judge.proofs.sums.+all_ends.Given as goal

abbrev pub decreases-all_ends : goal.decreases-all_ends
decreases-all_ends l = l.count
