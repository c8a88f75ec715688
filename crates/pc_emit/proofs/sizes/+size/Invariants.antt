use Rattle.std.proofs.Common.{◌≡◌, ◌+◌, drop}
use Rattle.pc_lower.specs.Trees.{all_read}
use Rattle.pc_regs.specs.Writings.{NodesWritten}
use Rattle.pc_regs.specs.Words.{writing_of}
use Rattle.pc_emit.specs.Code.{sizes}
use Rattle.pc_emit.proofs.sizes.+size.Given as goal

abbrev pub invariant-loop-node : goal.invariant-loop-node
invariant-loop-node l = record {
  all : l.all + sizes (writing_of l.placement) (all_read (drop l.node-index l.nodes)) ≡ sizes (writing_of l.placement) (all_read l.nodes);
  written : NodesWritten (writing_of l.placement) (all_read (drop l.node-index l.nodes));
}
