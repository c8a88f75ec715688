use Rattle.std.proofs.Common.{◌≡◌, ◌+◌, ◌≤◌, [], take, drop}
use Rattle.tk_paths.specs.Trees.{read_sections, threads_in}
use Rattle.tk_numbers.specs.Charges.{routines_in}
use Rattle.tk_threads.proofs.starts.threads_in.Given as goal

abbrev pub invariant-loop-i : goal.invariant-loop-i
invariant-loop-i l =
    (l.count + threads_in (read_sections (routines_in (take l.i l.sections)) (drop l.i l.sections)) ≡ threads_in (read_sections [] l.sections))
    × (l.count ≤ l.i)
