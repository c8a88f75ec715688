-- A listed pause or fork by its place: no place stands twice in a list of them.
use Rattle.std.specs.Prelude.{◌≡◌, ◌≢◌, ℕ, ◌<◌, List, length, slice_index_or, Option, Some, None}
use Rattle.pt_image.specs.declared.Point.{Point}
use Rattle.pt_image.specs.declared.Parts.{Parts}
use Rattle.pt_image.specs.Ranges.{places_of}
use Rattle.tk_walk.specs.declared.listing.Listing.{Listing}

-- the place of a listed point
abbrev pub place_at : List Point → ℕ → ℕ
place_at points i = slice_index_or (places_of points) i 0

-- a table has at the place of each point its number
abbrev pub IsTable : List Point → List ℕ → Type 0
IsTable points table = (i : ℕ) → i < length points → slice_index_or table (place_at points i) 0 ≡ i

-- the point that is listed for a place, or none is
abbrev pub IsFound : List Point → ℕ → Option ℕ → Type 0
IsFound points place (Some i) = (i < length points) × (place_at points i ≡ place)
IsFound points place None = (i : ℕ) → i < length points → place_at points i ≢ place

-- the tables are those of the pauses and of the forks of an image
pub record AreListings (image : Parts) (l : Listing) : Type 0 where
  pub pauses : IsTable image.pauses l.pauses
  pub forks : IsTable image.forks l.forks
