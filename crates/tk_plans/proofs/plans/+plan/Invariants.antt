use Rattle.std.proofs.Common.{◌≡◌, ◌+◌, ◌-◌, ◌*◌, ◌≤◌, ◌++◌}
use Rattle.tk_plans.specs.Plans.{plans}
use Rattle.tk_plans.proofs.plans.+plan.Given as goal

abbrev pub decreases-plan : goal.decreases-plan
decreases-plan l = l.most * 2048

abbrev pub decreases-children : goal.decreases-children
decreases-children l = l.most * 2048 + 1 + l.count

abbrev pub decreases-follow : goal.decreases-follow
decreases-follow l = l.most * 2048 + 1

abbrev pub decreases-part : goal.decreases-part
decreases-part l = (l.most - 1) * 2048 + 1000

abbrev pub invariant-plan-loop-left : goal.invariant-plan-loop-left
invariant-plan-loop-left l = record {
  within : l.left ≤ l.most;
  answers : (plans l.image l.lines l.bounds l.costs l.program l.left l.at l.side l.level).0
      ≡ (plans l.image l.lines l.bounds l.costs l.program l.most l.place l.side l.level).0;
  choices : l.choices.items ++ (plans l.image l.lines l.bounds l.costs l.program l.left l.at l.side l.level).1
      ≡ l.initial.choices.items ++ (plans l.image l.lines l.bounds l.costs l.program l.most l.place l.side l.level).1;
}

abbrev pub decreases-plan-loop-left : goal.decreases-plan-loop-left
decreases-plan-loop-left l = l.left
