use Rattle.std.proofs.Common.{drop}
use Rattle.pc_regs.proofs.Pushed.{IsPushed}
use Rattle.pc_regs.proofs.steps.push_steps.Given as goal

abbrev pub invariant-loop-step : goal.invariant-loop-step
invariant-loop-step l = IsPushed l.placement l.steps (drop l.step-index l.steps) l.initial.out.items l.out.items
