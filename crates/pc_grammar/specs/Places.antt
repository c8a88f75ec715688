-- The places of a program that name something, and what each of them names: docs/language.md, "Names".
use Rattle.std.specs.Prelude.{Bool, true, false, ◌||◌, ◌&&◌, not, List, [], ◌∷◌, ◌++◌, Option, Some, None, map, find, codes, if◌then◌else◌}
use Rattle.std.specs.List.{list_any}
use Rattle.std.specs.Str.{bytes_eq}
use Rattle.pc_grammar.specs.declared.expressions.Word.{Word}
use Rattle.pc_grammar.specs.declared.expressions.Expr.{Expr}
use Rattle.pc_grammar.specs.declared.programs.Item.{Item}
use Rattle.pc_grammar.specs.declared.programs.Item.TheVariants.{Scalar, Array, Function}
use Rattle.pc_grammar.specs.declared.roles.Role.{Role}
use Rattle.pc_grammar.specs.declared.roles.Role.TheVariants.{Starts}
use Rattle.pc_grammar.specs.Uses.{Use, value_uses, statements_uses}

-- ---- items by name

abbrev pub word_of : Item → Word
word_of (Scalar kind name start) = name
word_of (Array name size) = name
word_of (Function name gives parameters locals body result) = name

abbrev pub same_text : Word → Word → Bool
same_text a b = bytes_eq a.text b.text

abbrev pub is_among : Word → List Word → Bool
is_among w words = list_any (same_text w) words

abbrev pub has_name : Word → Item → Bool
has_name w item = same_text w (word_of item)

-- ---- places

-- a use, the items declared before its function, and the parameters and locals declared before it in that function
pub record Place : Type 0 where
  pub role : Role
  pub word : Word
  pub before : List Item
  pub own : List Word

abbrev pub place_of : List Item → List Word → Use Word → Place
place_of before own u = record { role = u.role; word = u.word; before = before; own = own }

abbrev pub names_of : List (Word × Option (Expr Word)) → List Word
names_of locals = map (λ p. p.0) locals

-- a local is known from the end of its declaration on
abbrev pub locals_places : List Item → List Word → List (Word × Option (Expr Word)) → List Place
locals_places before own [] = []
locals_places before own (p ∷ rest) = map (place_of before own) (value_uses p.1) ++ locals_places before (own ++ p.0 ∷ []) rest

abbrev pub item_places : List Item → Item → List Place
item_places before (Scalar kind name start) = []
item_places before (Array name size) = []
item_places before (Function name gives parameters locals body result) =
    locals_places before parameters locals ++ map (place_of before (parameters ++ names_of locals)) (statements_uses body ++ value_uses result)

-- an item is known from its end on
abbrev pub places_from : List Item → List Item → List Place
places_from before [] = []
places_from before (i ∷ rest) = item_places before i ++ places_from (before ++ i ∷ []) rest

-- every place of a program that names something, in the order of the text
abbrev pub places : List Item → List Place
places items = places_from [] items

-- ---- what a place names

pub data Found : Type 0 where
  Unknown : Found
  Own : Found
  Known : Item → Found

abbrev pub found_among : Option Item → Found
found_among None = Unknown
found_among (Some item) = Known item

-- a parameter or local hides an item of its name; of two items the first counts
unfoldable pub found : Place → Found
found p = if is_among p.word p.own then Own else found_among (find (has_name p.word) p.before)

-- ---- threads

abbrev pub is_start : Role → Bool
is_start Starts = true
is_start _ = false

-- a `PAR` that names an item of this name
abbrev pub starts : Word → Place → Bool
starts name p = is_start p.role && (same_text name p.word && not (is_among p.word p.own))

abbrev pub is_main : Word → Bool
is_main w = bytes_eq w.text (codes "main")

-- `main`, and what a `PAR` names anywhere in the text
unfoldable pub is_thread : List Item → Word → Bool
is_thread items name = is_main name || list_any (starts name) (places items)
