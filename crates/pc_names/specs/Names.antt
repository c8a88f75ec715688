-- Names that are kept as a set, and names that stand there once.
use Rattle.std.specs.Prelude.{◌≡◌, ℕ, ◌<◌, ◌^◌, false, List, ◌∷◌, ◌++◌, Option, Contains, map, length, find}
use Rattle.pc_grammar.specs.declared.expressions.Word.{Word}
use Rattle.pc_grammar.specs.declared.programs.Item.{Item}
use Rattle.pc_grammar.specs.Places.{word_of, is_among, has_name}
use Rattle.pc_grammar.specs.Breaking.{own_of}
use Rattle.pc_grammar.specs.Typing.{cells_of, functions_in, cell_number, function_number}

-- the same names, however often each stands there
abbrev pub HasNames : List Word → List Word → Type 0
HasNames names words = (w : Word) → is_among w names ≡ is_among w words

-- a look-up that finds the first item of each name
abbrev pub FindsItems : (Word → Option Item) → List Item → Type 0
FindsItems look items = (w : Word) → look w ≡ find (has_name w) items

-- no name stands there twice
abbrev pub AreOnce : List Word → Type 0
AreOnce words = (before after : List Word) (w : Word) → words ≡ before ++ w ∷ after → is_among w before ≡ false

-- no name is declared twice, and each cell and each function has a number of 32 bits
pub record CanBeNumbered (items : List Item) : Type 0 where
  pub items_once : AreOnce (map word_of items)
  pub own_once : (i : Item) → Contains items i → AreOnce (own_of i)
  pub cells_fit : length (cells_of items) < 2 ^ 32
  pub functions_fit : functions_in items < 2 ^ 32

-- the numbers of names, given the items before a function and what it declares itself
abbrev pub cell_in : List Item × List Word → Word → ℕ
cell_in scope w = cell_number scope.0 scope.1 w

abbrev pub function_in : List Item × List Word → Word → ℕ
function_in scope w = function_number scope.0 w
