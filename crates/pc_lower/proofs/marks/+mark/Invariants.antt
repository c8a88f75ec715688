use Rattle.std.proofs.Common.{◌≡◌, ◌++◌, drop, map}
use Rattle.pc_meaning.specs.Programs.{joined}
use Rattle.pc_lower.specs.Marks.{eots_in, pars_in, aborts_of_text}
use Rattle.pc_lower.proofs.marks.+mark.Given as goal

abbrev pub invariant-mark_all-loop-s : goal.invariant-mark_all-loop-s
invariant-mark_all-loop-s l = record {
  eots : l.marks.eots.items ++ joined (map eots_in (drop l.s-index l.all)) ≡ l.initial.marks.eots.items ++ joined (map eots_in l.all);
  pars : l.marks.pars.items ++ joined (map pars_in (drop l.s-index l.all)) ≡ l.initial.marks.pars.items ++ joined (map pars_in l.all);
  aborts : l.marks.aborts.items ++ joined (map aborts_of_text (drop l.s-index l.all)) ≡ l.initial.marks.aborts.items ++ joined (map aborts_of_text l.all);
}
