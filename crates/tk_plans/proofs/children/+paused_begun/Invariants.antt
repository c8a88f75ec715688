use Rattle.tk_plans.proofs.children.+paused_begun.Given as goal

abbrev pub decreases-paused_begun : goal.decreases-paused_begun
decreases-paused_begun l = l.count
