use Rattle.std.proofs.Common.{◌≡◌, ◌++◌, map, drop}
use Rattle.std.specs.Prelude.{slice_index_or}
use Rattle.pc_emit.specs.Code.{short}
use Rattle.pc_emit.proofs.image.starts.Given as goal

abbrev pub invariant-loop-function : goal.invariant-loop-function
invariant-loop-function l =
    l.starts.items ++ map (λ g. short (slice_index_or l.entrances g 0)) (drop l.function-index l.slots)
    ≡ map (λ g. short (slice_index_or l.entrances g 0)) l.slots
