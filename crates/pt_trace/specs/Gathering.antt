-- What is known of the bytes that are kept when no more are pulled for the next line.
use Rattle.std.specs.Prelude.{◌≡◌, ◌<◌, ◌≤◌, ℕ, List, length, Option, Some, None, Result, Ok, Err}
use Rattle.std.specs.Io.KnownBytes.{IsAtEnd}
use Rattle.pt_trace.specs.Next.{line_feed}
use Rattle.pt_trace.specs.declared.gather.Found.{Found}
use Rattle.pt_trace.specs.declared.gather.Found.TheVariants.{LineFeed, Long, End}

-- more bytes of a line than these are kept
pub record IsLong (kept : List ℕ) (most : ℕ) : Type 0 where
  pub no_line_feed : line_feed kept ≡ None
  pub more : most < length kept

-- the last line is kept, or nothing
pub record IsLast (kept : List ℕ) (left : Option (List ℕ)) : Type 0 where
  pub no_line_feed : line_feed kept ≡ None
  pub at_end : IsAtEnd left

-- the source failed before a line was whole
pub record IsCutOff (kept : List ℕ) (most : ℕ) (rose : Type 0) : Type 0 where
  pub no_line_feed : line_feed kept ≡ None
  pub few : length kept ≤ most
  pub counted : rose

abbrev pub Gathers : {E : Type 0} → List ℕ → ℕ → Option (List ℕ) → Type 0 → Result Found E → Type 0
Gathers kept most left rose (Ok (LineFeed at)) = line_feed kept ≡ Some at
Gathers kept most left rose (Ok Long) = IsLong kept most
Gathers kept most left rose (Ok End) = IsLast kept left
Gathers kept most left rose (Err e) = IsCutOff kept most rose
