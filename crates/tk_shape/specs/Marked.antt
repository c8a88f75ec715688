-- Marks of places.
use Rattle.std.specs.Prelude.{◌≡◌, ℕ, ◌<◌, ◌||◌, Bool, false, List, slice_index_or}
use Rattle.tk_shape.specs.Asking.{any_for}

-- a place is marked; none is behind the end
abbrev pub is_marked : List Bool → ℕ → Bool
is_marked marks place = slice_index_or marks place false

-- these places are marked besides
pub record IsMore (old new : List Bool) (goals : List ℕ) : Type 0 where
  pub at : (place : ℕ) → place < 65536 → is_marked new place ≡ (is_marked old place || any_for place goals)
