use Rattle.std.proofs.Common.{◌≡◌, ◌-◌, [], ◌∷◌}
use Rattle.std.specs.List.{flat_map, range_with_len}
use Rattle.tk_cert.specs.Demands.{shape_demand}
use Rattle.tk_paths.specs.Kinds.{places_of}
use Rattle.tk_paths.specs.Shape.{place_is_shaped}
use Rattle.tk_shape.specs.Refused.{refused}
use Rattle.tk_shape.proofs.places.shape_of_places.Given as goal

abbrev pub invariant-loop-place : goal.invariant-loop-place
invariant-loop-place l = refused (flat_map (λ place. shape_demand 1 place (place_is_shaped l.image l.cert place) ∷ []) (places_of l.image)) ≡ refused (flat_map (λ place. shape_demand 1 place (place_is_shaped l.image l.cert place) ∷ []) (range_with_len l.place (l.place-end - l.place)))
