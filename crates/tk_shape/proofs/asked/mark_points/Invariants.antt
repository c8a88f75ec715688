use Rattle.std.proofs.Common.{[], ◌∷◌, flat_map, take}
use Rattle.tk_shape.specs.Marked.{IsMore}
use Rattle.tk_shape.proofs.asked.mark_points.Given as goal

abbrev pub invariant-loop-p : goal.invariant-loop-p
invariant-loop-p l = IsMore l.fn.marks l.marks (flat_map (λ p. p.at ∷ []) (take l.p-index l.points))
