use Rattle.tk_shape.proofs.words.+children_start.Given as goal

abbrev pub decreases-children_start : goal.decreases-children_start
decreases-children_start l = l.count
