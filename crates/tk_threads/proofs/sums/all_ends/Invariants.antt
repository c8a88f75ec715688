use Rattle.std.proofs.Common.{◌≡◌, ◌≤◌, ◌+◌, ◌-◌}
use Rattle.tk_paths.specs.Sums.{all_ends}
use Rattle.tk_paths.specs.Programs.{pair_from}
use Rattle.tk_threads.proofs.sums.all_ends.Given as goal

abbrev pub invariant-loop-left : goal.invariant-loop-left
invariant-loop-left l = record {
  low : l.left ≤ l.count;
  told : l.total ≡ all_ends (pair_from l.first l.starts) (l.low + l.left) (l.count - l.left);
}

abbrev pub decreases-loop-left : goal.decreases-loop-left
decreases-loop-left l = l.left
