use Rattle.std.proofs.Common.{◌≡◌, ◌-◌, ◌++◌, drop}
use Rattle.tk_paths.specs.Choices.{fitted}
use Rattle.tk_plans.proofs.rests.fitted.Given as goal

abbrev pub invariant-loop-i : goal.invariant-loop-i
invariant-loop-i l = l.fit.items ++ fitted (l.level - l.i) (drop l.i l.answers) ≡ fitted l.level l.answers
