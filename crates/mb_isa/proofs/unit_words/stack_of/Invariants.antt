use Rattle.std.proofs.Common.{◌≡◌, map, take}
use Rattle.mb_pfu.specs.declared.parts.Watch.{Watch}
use Rattle.mb_pfu.specs.Tree.{watches_of}
use Rattle.mb_isa.proofs.unit_words.stack_of.Given as goal

abbrev pub invariant-loop-i : goal.invariant-loop-i
invariant-loop-i l = record {
  items : l.stack.items ≡ map (λ (w : Watch). w.entry.number) (take l.i (watches_of l.s l.unit.tree));
}
