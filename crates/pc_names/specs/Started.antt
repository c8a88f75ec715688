-- What a place names, and the names in `PAR`s.
use Rattle.std.specs.Prelude.{Bool, true, false, ◌&&◌, not, List, [], ◌∷◌, ◌++◌}
use Rattle.pc_grammar.specs.declared.expressions.Word.{Word}
use Rattle.pc_grammar.specs.Places.{Found, Unknown, Own, is_start}
use Rattle.pc_names.specs.Sites.{Site}

abbrev pub is_unknown : Found → Bool
is_unknown Unknown = true
is_unknown _ = false

abbrev pub one_if : Bool → Word → List Word
one_if true w = w ∷ []
one_if false w = []

-- the names in `PAR`s, in order
abbrev pub started : List Site → List Word
started [] = []
started (s ∷ rest) = one_if (is_start s.role) s.word ++ started rest

abbrev pub is_own : Found → Bool
is_own Own = true
is_own _ = false

-- the name at a site, where a `PAR` names it and no parameter or local hides it
abbrev pub started_item : Site → List Word
started_item s = one_if (is_start s.role && not (is_own s.found)) s.word

-- those that no parameter or local hides
abbrev pub started_items : List Site → List Word
started_items [] = []
started_items (s ∷ rest) = started_item s ++ started_items rest
