use Rattle.std.proofs.Common.{◌≡◌, IsTrue, length, drop}
use Rattle.mb_pfu.specs.Rows.{is_ready}
use Rattle.mb_pfu.specs.Tree.{slot_of, watches_of}
use Rattle.tk_walk.specs.Building.{entries, all_entered}
use Rattle.tk_walk.proofs.configuration.enter_all.Given as goal

abbrev pub invariant-loop-number : goal.invariant-loop-number
invariant-loop-number l = record {
  rest : l.unit ≡ record l.fn.unit { tree = l.unit.tree };
  tree : all_entered l.s (entries l.image (drop l.number-index l.stack)) l.unit.tree ≡ all_entered l.s (entries l.image l.stack) l.fn.unit.tree;
  ready : IsTrue (is_ready (slot_of l.s l.unit.tree));
  depth : length (watches_of l.s l.unit.tree) ≡ l.number-index;
}
