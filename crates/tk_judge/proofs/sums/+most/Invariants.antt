use Rattle.tk_judge.proofs.sums.+most.Given as goal

abbrev pub decreases-most : goal.decreases-most
decreases-most l = l.count
