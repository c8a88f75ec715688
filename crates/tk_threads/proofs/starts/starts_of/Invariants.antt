use Rattle.std.proofs.Common.{◌≡◌, ◌-◌, ◌≤◌, [], map}
use Rattle.std.specs.List.{range_with_len}
use Rattle.tk_paths.specs.Programs.{starts_from}
use Rattle.tk_paths.specs.Trees.{read_sections, threads_in, code_of}
use Rattle.tk_threads.proofs.starts.starts_of.Given as goal

abbrev pub decreases-loop-slot : goal.decreases-loop-slot
decreases-loop-slot l = l.slot

abbrev pub invariant-loop-slot : goal.invariant-loop-slot
invariant-loop-slot l =
    (l.slot ≤ threads_in (read_sections [] l.sections))
    × (l.starts.items ≡ starts_from l.image l.costs l.slot
    (map (λ c. code_of c (read_sections [] l.sections)) (range_with_len l.slot (threads_in (read_sections [] l.sections) - l.slot))))
