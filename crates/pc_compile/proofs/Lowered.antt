-- What is known of the flow of an accepted program once it is lowered.
use Rattle.std.proofs.Common.{◌≡◌}
use Rattle.pc_grammar.specs.Typing.{Typing}
use Rattle.pc_grammar.specs.Keeping.{IsTyped}
use Rattle.pc_rules.specs.Judging.{IsWithin}
use Rattle.pc_lower.specs.Flow.{Flow}
use Rattle.pc_lower.specs.Counts.{BodiesWithin, ConditionsWithin}
use Rattle.pc_lower.specs.Placing.{typed_flow}

pub record IsLowered (t : Typing) (f : Flow) : Type 0 where
  pub typed : IsTyped t
  pub within : IsWithin t
  pub same : f ≡ typed_flow t
  pub bodies : BodiesWithin 652 f.bodies
  pub conditions : ConditionsWithin 652 f.aborts
