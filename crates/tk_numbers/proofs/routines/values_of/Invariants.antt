use Rattle.std.proofs.Common.{◌≡◌, take}
use Rattle.tk_numbers.specs.Charges.{IsValued}
use Rattle.tk_numbers.proofs.routines.values_of.Given as goal

abbrev pub invariant-loop-i : goal.invariant-loop-i
invariant-loop-i l = IsValued l.image l.costs l.values.items (take l.i l.sections)
