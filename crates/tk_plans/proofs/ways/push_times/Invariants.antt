use Rattle.std.proofs.Common.{◌≡◌, ◌++◌}
use Rattle.tk_paths.specs.Regions.{times}
use Rattle.tk_plans.proofs.ways.push_times.Given as goal

abbrev pub invariant-loop-left : goal.invariant-loop-left
invariant-loop-left l = l.choices.items ++ times l.left l.turn ≡ l.initial.choices.items ++ times l.count l.turn

abbrev pub decreases-loop-left : goal.decreases-loop-left
decreases-loop-left l = l.left
