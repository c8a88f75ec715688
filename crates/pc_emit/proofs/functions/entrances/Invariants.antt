use Rattle.std.proofs.Common.{◌≡◌, ◌++◌, drop, map}
use Rattle.std.specs.List.{AllByRecursion}
use Rattle.pc_lower.specs.Trees.{read}
use Rattle.pc_regs.specs.Words.{writing_of}
use Rattle.pc_emit.specs.Image.{entrances_from}
use Rattle.pc_regs.specs.Writings.{NodeWritten}
use Rattle.pc_emit.proofs.functions.entrances.Given as goal

abbrev pub invariant-loop-node : goal.invariant-loop-node
invariant-loop-node l = record {
  all : l.all.items ++ entrances_from (writing_of l.placement) (map read (drop l.node-index l.bodies)) l.place
      ≡ entrances_from (writing_of l.placement) (map read l.bodies) 0;
  written : AllByRecursion (NodeWritten (writing_of l.placement)) (map read (drop l.node-index l.bodies));
}
