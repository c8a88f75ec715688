use Rattle.std.proofs.Common.{◌≡◌, ◌∙◌}
use Rattle.pc_meaning.specs.Programs.{program_of}
use Rattle.pc_lower.specs.declared.flow.Flow.{Flow as Kept}
use Rattle.pc_lower.specs.Trees.{flow_read}
use Rattle.pc_lower.specs.Lowered.{flow_of}
use Rattle.pc_lower.proofs.Lowers.{flow_is, correct, few, within_weight, within_passages}
use Rattle.pc_lower.proofs.lowering.lower.Goals as goal

pub returns : goal.returns
returns c =
    let t = c.args.typed.now in
    let f : Kept = record {
      bodies = c.in_ok-bodies.bodies;
      main = c.main.result;
      aborts = c.in_ok-aborts.aborts;
      declared = c.in_ok-declared.declared;
      inputs = c.in_ok-inputs.inputs;
      outputs = c.in_ok-outputs.outputs;
    } in
    let is : flow_read f ≡ flow_of (program_of t) =
    flow_is t f c.cells-cells.result.now c.functions-functions.result.now c.as_slice-rooms.result.now
    c.cells-cells.ensures.cells c.functions-functions.ensures.functions (c.as_slice-rooms.ensures.value ∙ c.in_ok-rooms.ensures)
    c.in_ok-bodies.ensures c.main.ensures c.in_ok-aborts.ensures c.in_ok-declared.ensures c.in_ok-inputs.ensures c.in_ok-outputs.ensures in
    let typed = c.cells-cells.ensures.typed in
    record {
      exact = is;
      correct = λ temps rows. correct t (flow_read f) is typed temps rows;
      few = few t (flow_read f) is typed;
      words = within_weight t (flow_read f) is;
      passages = λ i. within_passages t (flow_read f) is i;
    }
