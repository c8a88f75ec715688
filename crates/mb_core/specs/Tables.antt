-- Listed pauses and forks in tables by place.
use Rattle.std.specs.Prelude.{◌≡◌, ℕ, ◌<◌, List, [], length, Option, Some, None, slice_index_or}
use Rattle.pt_image.specs.declared.image.Point.{Point}

abbrev pub blank : Point
blank = record { at = 0; slot = 0; stack = [] }

abbrev pub point_of : List Point → ℕ → Point
point_of points i = slice_index_or points i blank

-- the number of the point at a place
abbrev pub listed_at : List (Option ℕ) → ℕ → Option ℕ
listed_at table place = slice_index_or table place None

-- each point's number stands at its place, and no other number anywhere
pub record IsTable (points : List Point) (table : List (Option ℕ)) : Type 0 where
  pub there : (i : ℕ) → i < length points → listed_at table (point_of points i).at ≡ Some i
  pub only : (place i : ℕ) → listed_at table place ≡ Some i → (i < length points) × ((point_of points i).at ≡ place)
