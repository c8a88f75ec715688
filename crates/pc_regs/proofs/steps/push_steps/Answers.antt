use Rattle.std.proofs.Common.{refl}
use Rattle.pc_regs.proofs.Pushed.{one_pushed, next_written, all_pushed}
use Rattle.pc_regs.proofs.steps.push_steps.Goals as goal

pub loop-step-init : goal.loop-step-init
loop-step-init c = record { words = refl; written = c.requires.written }

pub push_step-requires-clause-written : goal.push_step-requires-clause-written
push_step-requires-clause-written c = next_written c.args.placement c.args.steps.now c.loop-step.step-index _ c.args.out.now.items c.loop-step.out.items c.loop-step-test.true c.loop-step.invariant

pub loop-step-preserved : goal.loop-step-preserved
loop-step-preserved c = one_pushed c.args.placement c.args.steps.now c.loop-step.step-index _ c.args.out.now.items c.loop-step.out.items c.push_step.new.out.items c.loop-step-test.true c.loop-step.invariant c.in_ok-push_step.ensures

pub returns : goal.returns
returns c = all_pushed c.args.placement c.args.steps.now c.loop-step.step-index c.args.out.now.items c.loop-step.out.items c.loop-step-test.false c.loop-step.invariant
