use Rattle.std.proofs.Common.{◌≡◌, ◌<◌, ℕ}
use Rattle.mb_pfu.specs.Tree.{slot_of}
use Rattle.tk_paths.specs.Walks.{state_of}
use Rattle.tk_walk.specs.Building.{state_at}
use Rattle.tk_walk.proofs.configuration.are_states.Given as goal

abbrev pub invariant-loop-s : goal.invariant-loop-s
invariant-loop-s l = (q : ℕ) → q < l.s → state_at l.states q ≡ state_of (slot_of q l.unit.tree)
