use Rattle.std.proofs.Common.{◌≡◌, ◌≤◌, ◌-◌, drop, length}
use Rattle.tk_paths.specs.declared.view.Side.TheVariants.{ToPause, ToEnd}
use Rattle.tk_paths.specs.Numbers.{handled}
use Rattle.tk_threads.proofs.rests.handled.Given as goal

abbrev pub invariant-loop-i : goal.invariant-loop-i
invariant-loop-i l = record {
  within : l.i ≤ length l.aborts;
  low : l.i ≤ l.count;
  pause : l.most.0 ≡ handled l.image l.costs ToPause (drop l.i l.aborts) (l.count - l.i);
  end : l.most.1 ≡ handled l.image l.costs ToEnd (drop l.i l.aborts) (l.count - l.i);
}

abbrev pub decreases-loop-i : goal.decreases-loop-i
decreases-loop-i l = l.i
