use Rattle.std.proofs.Common.{◌≡◌, ◌+◌, ◌-◌}
use Rattle.tk_walk.specs.Building.{any_loose}
use Rattle.tk_walk.proofs.configuration.any_loose.Given as goal

abbrev pub invariant-loop-j : goal.invariant-loop-j
invariant-loop-j l = any_loose l.states l.from l.count ≡ any_loose l.states (l.from + l.j) (l.count - l.j)
