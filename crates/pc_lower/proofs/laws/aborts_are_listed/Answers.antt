use Rattle.pc_lower.proofs.Listing.{in_order_listed}
use Rattle.pc_lower.proofs.laws.aborts_are_listed.Goals as goal

pub returns : goal.returns
returns c = λ routines order. in_order_listed routines order
