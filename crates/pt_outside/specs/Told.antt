-- What a shelf, a source and a sink tell of themselves.
use Rattle.std.specs.Prelude.{ℕ, Bool, List, Option}
use Rattle.pt_outside.specs.Files.{Files}

-- the files of a shelf, where it tells them, and how many loads and stores failed
pub record ShelfTold : Type 0 where
  pub files : Option Files
  pub load_faults : ℕ
  pub store_faults : ℕ

-- the bytes that a source has left, where it tells them, and how many pulls failed
pub record SourceTold : Type 0 where
  pub left : Option (List ℕ)
  pub faults : ℕ

-- the bytes that a sink took, where it tells them, in how many pushes, whether none of them waits for a flush, and how many
-- calls failed
pub record SinkTold : Type 0 where
  pub written : Option (List ℕ)
  pub pushes : ℕ
  pub sent : Bool
  pub faults : ℕ
