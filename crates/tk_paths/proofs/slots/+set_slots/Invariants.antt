use Rattle.tk_paths.proofs.slots.+set_slots.Given as goal

abbrev pub decreases-set_slots : goal.decreases-set_slots
decreases-set_slots l = l.count
