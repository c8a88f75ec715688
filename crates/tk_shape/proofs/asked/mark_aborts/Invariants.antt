use Rattle.std.proofs.Common.{flat_map, take}
use Rattle.std.specs.Prelude.{slice_get}
use Rattle.tk_paths.specs.Kinds.{places_of_abort}
use Rattle.tk_shape.specs.Marked.{IsMore}
use Rattle.tk_shape.proofs.asked.mark_aborts.Given as goal

abbrev pub invariant-loop-j : goal.invariant-loop-j
invariant-loop-j l = IsMore l.fn.marks l.marks (flat_map (λ j. places_of_abort (slice_get l.image.aborts j)) (take l.j-index l.stack))
