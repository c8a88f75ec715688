use Rattle.std.proofs.Common.{◌≡◌, Bool, IsTrue, ◌++◌, drop}
use Rattle.std.specs.List.{AllByRecursion}
use Rattle.pc_lower.specs.declared.nodes.Test.{Test}
use Rattle.pc_lower.specs.Trees.{pairs_of}
use Rattle.pc_regs.specs.Words.{is_test_written, writing_of}
use Rattle.pc_emit.specs.Image.{abort_lines}
use Rattle.pc_emit.proofs.aborts.abort_lines.Given as goal

abbrev pub invariant-loop-number : goal.invariant-loop-number
invariant-loop-number l = record {
  lines : l.lines.items ++ abort_lines (writing_of l.placement) (pairs_of (drop l.number l.aborts)) l.number l.place l.handlers
      ≡ abort_lines (writing_of l.placement) (pairs_of l.aborts) 0 l.start l.handlers;
  written : AllByRecursion (λ (a : Bool × Test). IsTrue (is_test_written l.placement a.1)) (pairs_of (drop l.number l.aborts));
}
