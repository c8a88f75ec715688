use Rattle.tk_paths.proofs.joins.+resumed_paused.Given as goal

abbrev pub decreases-resumed_paused : goal.decreases-resumed_paused
decreases-resumed_paused l = l.count
