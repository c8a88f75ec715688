-- What is looked up of each place of a code.
use Rattle.std.specs.Prelude.{◌≡◌, ℕ, zero, suc, ◌<◌, ◌≤◌, ◌==◌, ◌&&◌, Bool, List, length, slice_get, slice_index_or, Option, Some, None, option_map}
use Rattle.std.specs.Option.{option_to_list}
use Rattle.pt_image.specs.declared.Point.{Point}
use Rattle.pt_image.specs.declared.Parts.{Parts}
use Rattle.pt_image.specs.Listed.{same_numbers}
use Rattle.tk_cert.specs.declared.cert.CertParts.{CertParts}
use Rattle.tk_paths.specs.Kinds.{points_at, is_asked}
use Rattle.tk_paths.specs.Shape.{weight_in}
use Rattle.tk_shape.specs.Marked.{is_marked}
use Rattle.tk_shape.specs.declared.tables.Tables.{Tables}

-- a number that is kept as one more than it, or none as 0
abbrev pub kept : ℕ → Option ℕ
kept zero = None
kept (suc n) = Some n

-- the number that an index has for a place
abbrev pub number_at : List ℕ → ℕ → Option ℕ
number_at index place = kept (slice_index_or index place 0)

-- what a list has at a number
abbrev pub found : {X : Type 0} → List X → Option ℕ → Option X
found xs None = None
found xs (Some n) = slice_get xs n

-- an index has for each place the point that is listed for it
abbrev pub IsIndexed : List Point → List ℕ → Type 0
IsIndexed points index = (place : ℕ) → place < 65536 → points_at points place ≡ option_to_list (found points (number_at index place))

-- an index has for each place the weight of its loop
abbrev pub AreWeighed : List (ℕ × ℕ) → List ℕ → Type 0
AreWeighed weights index = (place : ℕ) → place < 65536 → weight_in weights place ≡ option_map (λ w. w.1) (found weights (number_at index place))

-- a point is of a slot inside these aborts
abbrev pub is_from : ℕ → List ℕ → Point → Bool
is_from slot stack p = p.slot == slot && same_numbers p.stack stack

-- at most eight aborts are round a point
abbrev pub HasFew : Point → Type 0
HasFew p = length p.stack ≤ 8

-- the tables of an image and a certificate
pub record AreTables (image : Parts) (cert : CertParts) (tables : Tables) : Type 0 where
  pub pauses : IsIndexed image.pauses tables.pauses
  pub forks : IsIndexed image.forks tables.forks
  pub weights : AreWeighed cert.weights tables.weights
  pub asked : (place : ℕ) → place < 65536 → is_marked tables.asked place ≡ is_asked image cert.lines place
