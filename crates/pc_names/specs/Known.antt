-- What is known of the items before a function: their names, and the numbers of their cells and functions.
use Rattle.std.specs.Prelude.{◌≡◌, ℕ, ◌+◌, List, [], ◌∷◌, map, length}
use Rattle.pc_grammar.specs.declared.expressions.Word.{Word}
use Rattle.pc_grammar.specs.declared.programs.Item.{Item}
use Rattle.pc_grammar.specs.Places.{word_of}
use Rattle.pc_grammar.specs.Typing.{item_cells, cells_of, functions_in}

-- the number before each item of things of which an item has so many, counted from n
abbrev pub starts : (Item → ℕ) → ℕ → List Item → List ℕ
starts count n [] = []
starts count n (i ∷ rest) = n ∷ starts count (n + count i) rest

abbrev pub cells_in : Item → ℕ
cells_in i = length (item_cells i)

abbrev pub functions_of : Item → ℕ
functions_of i = functions_in (i ∷ [])

pub record IsKnown (before : List Item) (names : List Word) (cells functions : List ℕ) (cell_count function_count : ℕ) : Type 0 where
  pub named : names ≡ map word_of before
  pub cells_are : cells ≡ starts cells_in 0 before
  pub functions_are : functions ≡ starts functions_of 0 before
  pub all_cells : cell_count ≡ length (cells_of before)
  pub all_functions : function_count ≡ functions_in before
