-- The words of the cells, kept beside those at the end of the last tick.
use Rattle.std.specs.Prelude.{◌≡◌, ℕ, List, [], ◌∷◌, slice_set}
use Rattle.pc_meaning.specs.Values.{Store, word_at}

-- the words now, and those at the end of the last tick
pub record Words : Type 0 where
  pub current : Store
  pub before : Store

-- the words of a store at these places go over into another one
abbrev pub copied : List ℕ → (from into : Store) → Store
copied [] from into = into
copied (place ∷ places) from into = copied places from (slice_set into place (word_at from place))

-- the two stores differ at these places alone
pub record DifferAt (places : List ℕ) (current before : Store) : Type 0 where
  pub onward : copied places current before ≡ current
  pub back : copied places before current ≡ before
