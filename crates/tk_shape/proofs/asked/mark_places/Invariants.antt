use Rattle.std.proofs.Common.{flat_map}
use Rattle.std.specs.List.{range_with_len}
use Rattle.tk_paths.specs.Kinds.{asked_from}
use Rattle.tk_shape.specs.Marked.{IsMore}
use Rattle.tk_shape.proofs.asked.mark_places.Given as goal

abbrev pub invariant-loop-place : goal.invariant-loop-place
invariant-loop-place l = IsMore l.fn.marks l.marks (flat_map (asked_from l.image l.cert.lines) (range_with_len 0 l.place))
