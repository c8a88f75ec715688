use Rattle.std.proofs.Common.{◌≡◌, take}
use Rattle.tk_numbers.specs.Routines.{AreLinks}
use Rattle.tk_numbers.proofs.routines.all_links.Given as goal

abbrev pub invariant-loop-i : goal.invariant-loop-i
invariant-loop-i l = AreLinks l.links.items (take l.i l.sections)
