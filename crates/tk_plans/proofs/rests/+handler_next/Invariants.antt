use Rattle.tk_plans.proofs.rests.+handler_next.Given as goal

abbrev pub decreases-handler_next : goal.decreases-handler_next
decreases-handler_next l = l.count
