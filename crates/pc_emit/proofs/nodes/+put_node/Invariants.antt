use Rattle.std.proofs.Common.{◌≡◌, ◌+◌, length, drop}
use Rattle.pc_lower.specs.Trees.{all_read}
use Rattle.pc_lower.specs.Limits.{threads_of_all}
use Rattle.pc_regs.specs.Words.{writing_of}
use Rattle.pc_emit.specs.Part.{joined}
use Rattle.pc_emit.specs.Code.{codes}
use Rattle.pc_regs.specs.Writings.{NodesWritten}
use Rattle.pc_emit.proofs.nodes.+put_node.Given as goal

abbrev pub invariant-loop-node : goal.invariant-loop-node
invariant-loop-node l = record {
  part : joined l.out (codes (writing_of l.placement) l.entrances l.slot (all_read (drop l.node-index l.nodes)) l.stack l.next (length l.out.words))
      ≡ joined l.fn.out (codes (writing_of l.placement) l.entrances l.slot (all_read l.nodes) l.stack l.child (length l.fn.out.words));
  next : l.next + length (threads_of_all (all_read (drop l.node-index l.nodes))) ≡ l.child + length (threads_of_all (all_read l.nodes));
  written : NodesWritten (writing_of l.placement) (all_read (drop l.node-index l.nodes));
}
