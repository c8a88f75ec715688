-- What is worked out of each function, given what was worked out of those before it.
use Rattle.std.specs.Prelude.{ℕ, List, [], ◌∷◌, ◌++◌, slice_get, unwrap_or}
use Rattle.pc_grammar.specs.declared.Function.{Function}

-- what is known of a function by its number
abbrev pub known_of : List ℕ → ℕ → ℕ
known_of known f = unwrap_or (slice_get known f) 0

-- what is known, and then what `of` says of each function, given what is known before it
abbrev pub each_given : (List ℕ → Function → ℕ) → List ℕ → List Function → List ℕ
each_given of known [] = known
each_given of known (f ∷ rest) = each_given of (known ++ of known f ∷ []) rest
