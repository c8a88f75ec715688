use Rattle.std.proofs.Common.{◌≡◌, ◌≤◌, length, take}
use Rattle.tk_numbers.specs.Charges.{routines_in}
use Rattle.tk_numbers.proofs.routines.routines_among.Given as goal

abbrev pub invariant-loop-i : goal.invariant-loop-i
invariant-loop-i l = (l.count ≡ length (routines_in (take l.i l.before))) × (l.count ≤ l.i)
