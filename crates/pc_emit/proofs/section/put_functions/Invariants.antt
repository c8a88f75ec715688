use Rattle.std.proofs.Common.{◌≡◌, ◌+◌, ◌++◌, drop, map}
use Rattle.std.specs.List.{AllByRecursion}
use Rattle.pc_lower.specs.Trees.{read, flow_read}
use Rattle.pc_lower.specs.Numbering.{first_started}
use Rattle.pc_regs.specs.Words.{writing_of}
use Rattle.pc_regs.specs.Writings.{NodeWritten}
use Rattle.pc_emit.specs.Image.{functions_size}
use Rattle.pc_emit.specs.Made.{calls_from, made_functions}
use Rattle.pc_emit.proofs.section.put_functions.Given as goal

abbrev pub invariant-loop-function_number : goal.invariant-loop-function_number
invariant-loop-function_number l = record {
  sections : l.all.items ++ made_functions (writing_of l.placement) l.numbers l.slots (first_started (flow_read l.flow)) l.function_number
      (map read (drop l.function_number l.flow.bodies.items)) l.place
      ≡ l.fn.all.items ++ made_functions (writing_of l.placement) l.numbers l.slots (first_started (flow_read l.flow)) 0 (map read l.flow.bodies.items) 0;
  place : l.place + functions_size (writing_of l.placement) (map read (drop l.function_number l.flow.bodies.items))
      ≡ functions_size (writing_of l.placement) (map read l.flow.bodies.items);
  called : drop l.function_number l.called ≡ calls_from l.slots l.function_number (map read (drop l.function_number l.flow.bodies.items));
  written : AllByRecursion (NodeWritten (writing_of l.placement)) (map read (drop l.function_number l.flow.bodies.items));
}
