use Rattle.tk_judge.proofs.sums.+has_restarted.Given as goal

abbrev pub decreases-has_restarted : goal.decreases-has_restarted
decreases-has_restarted l = l.count
