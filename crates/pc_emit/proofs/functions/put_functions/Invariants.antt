use Rattle.std.proofs.Common.{◌≡◌, drop, map, length}
use Rattle.std.specs.List.{AllByRecursion}
use Rattle.pc_lower.specs.Trees.{read, flow_read}
use Rattle.pc_lower.specs.Numbering.{first_started}
use Rattle.pc_regs.specs.Words.{writing_of}
use Rattle.pc_emit.specs.Part.{joined}
use Rattle.pc_emit.specs.Image.{functions_code}
use Rattle.pc_regs.specs.Writings.{NodeWritten}
use Rattle.pc_emit.proofs.functions.put_functions.Given as goal

abbrev pub invariant-loop-number : goal.invariant-loop-number
invariant-loop-number l = record {
  part : joined l.out (functions_code (writing_of l.placement) l.entrances l.slots (first_started (flow_read l.flow)) l.number (map read (drop l.number l.flow.bodies.items)) (length l.out.words))
      ≡ joined l.fn.out (functions_code (writing_of l.placement) l.entrances l.slots (first_started (flow_read l.flow)) 0 (map read l.flow.bodies.items) (length l.fn.out.words));
  written : AllByRecursion (NodeWritten (writing_of l.placement)) (map read (drop l.number l.flow.bodies.items));
}
