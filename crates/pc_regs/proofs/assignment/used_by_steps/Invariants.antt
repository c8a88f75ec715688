use Rattle.std.proofs.Common.{◌≡◌, max, drop}
use Rattle.pc_regs.specs.Assignment.{used_by_steps}
use Rattle.pc_regs.proofs.assignment.used_by_steps.Given as goal

abbrev pub invariant-loop-step : goal.invariant-loop-step
invariant-loop-step l = max l.most (used_by_steps (drop l.step-index l.steps)) ≡ used_by_steps l.steps
