use Rattle.std.proofs.Common.{◌≡◌, ◌-◌}
use Rattle.std.specs.List.{flat_map, range_with_len}
use Rattle.tk_shape.specs.Refused.{refused}
use Rattle.tk_judge.specs.Asks.{level_edges}
use Rattle.tk_judge.proofs.edges.levels_edges.Given as goal

abbrev pub invariant-loop-level : goal.invariant-loop-level
invariant-loop-level l = refused (flat_map (level_edges l.image l.cert l.costs l.place l.line l.word) (range_with_len 0 l.levels)) ≡ refused (flat_map (level_edges l.image l.cert l.costs l.place l.line l.word) (range_with_len l.level (l.levels - l.level)))
