use Rattle.tk_plans.proofs.children.+ends_begun.Given as goal

abbrev pub decreases-ends_begun : goal.decreases-ends_begun
decreases-ends_begun l = l.count
