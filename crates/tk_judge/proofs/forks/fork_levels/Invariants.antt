use Rattle.std.proofs.Common.{◌≡◌, ◌-◌}
use Rattle.std.specs.List.{flat_map, range_with_len}
use Rattle.tk_shape.specs.Refused.{refused}
use Rattle.tk_paths.specs.Acceptance.{fork_at_level}
use Rattle.tk_judge.proofs.forks.fork_levels.Given as goal

abbrev pub invariant-loop-level : goal.invariant-loop-level
invariant-loop-level l = refused (flat_map (fork_at_level l.image l.cert l.costs l.place l.stack l.lo l.count) (range_with_len 0 l.levels)) ≡ refused (flat_map (fork_at_level l.image l.cert l.costs l.place l.stack l.lo l.count) (range_with_len l.level (l.levels - l.level)))
