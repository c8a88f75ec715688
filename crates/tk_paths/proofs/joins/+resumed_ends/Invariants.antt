use Rattle.tk_paths.proofs.joins.+resumed_ends.Given as goal

abbrev pub decreases-resumed_ends : goal.decreases-resumed_ends
decreases-resumed_ends l = l.count
