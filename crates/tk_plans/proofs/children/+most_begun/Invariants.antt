use Rattle.tk_plans.proofs.children.+most_begun.Given as goal

abbrev pub decreases-most_begun : goal.decreases-most_begun
decreases-most_begun l = l.count
