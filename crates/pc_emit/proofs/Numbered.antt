-- What is known of the slots of a flow.
use Rattle.std.proofs.Common.{◌<◌, length}
use Rattle.pc_lower.specs.Flow.{Flow}
use Rattle.pc_lower.specs.Program.{InOrder}
use Rattle.pc_lower.proofs.Numbering.{slots-are, have-slots}
use Rattle.pc_emit.proofs.Whole.{HasThreads}

pub slots : (f : Flow) → InOrder 0 f.bodies → f.main < length f.bodies → HasThreads f
slots f order main = (slots-are f order main, have-slots f order main)
