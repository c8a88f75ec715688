use Rattle.pc_lower.proofs.Within.{inputs-few, outputs-few, declared-few}
use Rattle.pc_lower.proofs.Declared.{declared-words}
use Rattle.pc_lower.proofs.Rooms.{inputs-below, outputs-below, keeps-cells}
use Rattle.pc_lower.proofs.flow_laws.flows_keep_to_their_cells.Goals as goal

pub returns : goal.returns
returns c = λ t typed within.
    (keeps-cells t typed, (inputs-few t typed within, inputs-below t typed), (outputs-few t typed within, outputs-below t typed), declared-few t typed within, declared-words t typed)
