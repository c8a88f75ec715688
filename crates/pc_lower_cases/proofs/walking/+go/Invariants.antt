use Rattle.pc_lower_cases.proofs.walking.+go.Given as goal

abbrev pub decreases-go : goal.decreases-go
decreases-go l = l.deep

abbrev pub decreases-go_from : goal.decreases-go_from
decreases-go_from l = l.deep

abbrev pub decreases-start : goal.decreases-start
decreases-start l = l.deep
