use Rattle.std.proofs.Common.{◌≡◌, ◌+◌, ◌++◌, length, drop}
use Rattle.pc_lower.specs.Trees.{all_read}
use Rattle.pc_lower.specs.Limits.{threads_of_all}
use Rattle.pc_regs.specs.Words.{writing_of}
use Rattle.pc_regs.specs.Writings.{NodesWritten}
use Rattle.pc_emit.specs.Made.{behind, made_codes}
use Rattle.pc_emit.proofs.thread.+code.Given as goal

abbrev pub invariant-loop-node : goal.invariant-loop-node
invariant-loop-node l = record {
  parts : l.parts ++ made_codes (writing_of l.placement) l.numbers (all_read (drop l.node-index l.nodes)) l.next l.place
      ≡ made_codes (writing_of l.placement) l.numbers (all_read l.nodes) l.child l.at;
  next : l.next + length (threads_of_all (all_read (drop l.node-index l.nodes))) ≡ l.child + length (threads_of_all (all_read l.nodes));
  place : behind (writing_of l.placement) (all_read (drop l.node-index l.nodes)) l.place ≡ behind (writing_of l.placement) (all_read l.nodes) l.at;
  written : NodesWritten (writing_of l.placement) (all_read (drop l.node-index l.nodes));
}
