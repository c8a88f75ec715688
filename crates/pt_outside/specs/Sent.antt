-- What a sink over a writer tells of itself.
use Rattle.std.specs.Prelude.{ℕ, Bool}

-- how many pushes it took, whether none of them waits for a flush, and how many calls failed
pub record Sent : Type 0 where
  pub pushes : ℕ
  pub sent : Bool
  pub faults : ℕ
