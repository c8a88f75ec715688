use Rattle.tk_judge.proofs.sums.+most_paused.Given as goal

abbrev pub decreases-most_paused : goal.decreases-most_paused
decreases-most_paused l = l.count
