use Rattle.std.proofs.Common.{◌≡◌, ◌≤◌, ◌+◌, ◌-◌}
use Rattle.tk_paths.specs.Sums.{most, most_paused}
use Rattle.tk_paths.specs.Programs.{pair_from}
use Rattle.tk_threads.proofs.sums.most_paused.Given as goal

abbrev pub invariant-loop-left : goal.invariant-loop-left
invariant-loop-left l = record {
  low : l.left ≤ l.count;
  any : l.most ≡ most (pair_from l.first l.starts) (l.low + l.left) (l.count - l.left);
  told : l.paused ≡ most_paused (pair_from l.first l.starts) (l.low + l.left) (l.count - l.left);
}

abbrev pub decreases-loop-left : goal.decreases-loop-left
decreases-loop-left l = l.left
