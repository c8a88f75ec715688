use Rattle.std.proofs.Common.{◌≡◌, ◌-◌}
use Rattle.std.specs.List.{flat_map, range_with_len}
use Rattle.tk_paths.specs.Kinds.{places_of}
use Rattle.tk_shape.specs.Refused.{refused}
use Rattle.tk_judge.specs.Asks.{forks_at}
use Rattle.tk_judge.proofs.forks.forks.Given as goal

abbrev pub invariant-loop-place : goal.invariant-loop-place
invariant-loop-place l = refused (flat_map (forks_at l.image l.cert l.costs) (places_of l.image)) ≡ refused (flat_map (forks_at l.image l.cert l.costs) (range_with_len l.place (l.place-end - l.place)))
