use Rattle.std.proofs.Common.{flat_map}
use Rattle.std.specs.Prelude.{slice_get}
use Rattle.std.specs.List.{range_with_len}
use Rattle.tk_paths.specs.Kinds.{place_in}
use Rattle.tk_shape.specs.Marked.{IsMore}
use Rattle.tk_shape.proofs.asked.mark_starts.Given as goal

abbrev pub invariant-loop-number : goal.invariant-loop-number
invariant-loop-number l = IsMore l.fn.marks l.marks (flat_map (λ child. place_in (slice_get l.image.slots child)) (range_with_len l.lo l.number))
