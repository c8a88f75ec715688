use Rattle.std.proofs.Common.{◌≡◌, [], take, drop}
use Rattle.tk_paths.specs.Trees.{read_sections, code_of}
use Rattle.tk_numbers.specs.Charges.{routines_in}
use Rattle.tk_threads.proofs.starts.slot_start.Given as goal

abbrev pub invariant-loop-i : goal.invariant-loop-i
invariant-loop-i l =
    code_of l.slot (read_sections (routines_in (take l.i l.sections)) (drop l.i l.sections)) ≡ code_of l.slot (read_sections [] l.sections)
