use Rattle.std.proofs.Common.{◌≡◌, Bool, IsTrue, ◌++◌, drop}
use Rattle.std.specs.List.{AllByRecursion}
use Rattle.pc_lower.specs.declared.nodes.Test.{Test}
use Rattle.pc_lower.specs.Trees.{pairs_of}
use Rattle.pc_regs.specs.Words.{is_test_written, writing_of}
use Rattle.pc_emit.specs.Made.{made_conditions}
use Rattle.pc_emit.proofs.section.put_conditions.Given as goal

abbrev pub invariant-loop-abort : goal.invariant-loop-abort
invariant-loop-abort l = record {
  sections : l.all.items ++ made_conditions (writing_of l.placement) (pairs_of (drop l.abort-index l.aborts)) l.place
      ≡ l.fn.all.items ++ made_conditions (writing_of l.placement) (pairs_of l.aborts) l.start;
  written : AllByRecursion (λ (a : Bool × Test). IsTrue (is_test_written l.placement a.1)) (pairs_of (drop l.abort-index l.aborts));
}
