use Rattle.std.proofs.Common.{◌≡◌, ◌++◌, drop}
use Rattle.pc_lower.specs.Trees.{all_read}
use Rattle.pc_regs.specs.Words.{writing_of}
use Rattle.pc_regs.specs.Writings.{NodesWritten}
use Rattle.pc_emit.specs.Made.{behind, made_regions}
use Rattle.pc_emit.proofs.region.+region.Given as goal

abbrev pub invariant-loop-node : goal.invariant-loop-node
invariant-loop-node l = record {
  parts : l.parts ++ made_regions (writing_of l.placement) l.numbers (all_read (drop l.node-index l.nodes)) l.place
      ≡ made_regions (writing_of l.placement) l.numbers (all_read l.nodes) l.at;
  place : behind (writing_of l.placement) (all_read (drop l.node-index l.nodes)) l.place ≡ behind (writing_of l.placement) (all_read l.nodes) l.at;
  written : NodesWritten (writing_of l.placement) (all_read (drop l.node-index l.nodes));
}
