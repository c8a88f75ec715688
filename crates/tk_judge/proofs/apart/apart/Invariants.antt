use Rattle.std.proofs.Common.{◌≡◌, ◌-◌}
use Rattle.std.specs.List.{flat_map, range_with_len}
use Rattle.tk_paths.specs.Kinds.{places_of}
use Rattle.tk_shape.specs.Refused.{refused}
use Rattle.tk_judge.specs.Asks.{apart_at}
use Rattle.tk_judge.proofs.apart.apart.Given as goal

abbrev pub invariant-loop-place : goal.invariant-loop-place
invariant-loop-place l = refused (flat_map (apart_at l.image) (places_of l.image)) ≡ refused (flat_map (apart_at l.image) (range_with_len l.place (l.place-end - l.place)))
