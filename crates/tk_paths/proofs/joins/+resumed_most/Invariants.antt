use Rattle.tk_paths.proofs.joins.+resumed_most.Given as goal

abbrev pub decreases-resumed_most : goal.decreases-resumed_most
decreases-resumed_most l = l.count
