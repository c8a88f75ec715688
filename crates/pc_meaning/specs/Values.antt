-- The words of the cells, and what expressions are worth over them: docs/language.md, "The meaning of a program".
use Rattle.std.specs.Prelude.{ℕ, ◌+◌, nat_lt, ℤ, pos, negsuc, Bool, if◌then◌else◌, List, [], ◌∷◌, Option, Some, None, slice_set, slice_index_or}
use Rattle.pt_base.specs.Operators.{word_of, is_true, unary_of, binary_of}
use Rattle.pc_meaning.specs.Tree.{Expression, Operands, number, cell, element, unary, chain, alone, operand, Goal, nowhere, to_cell, to_element}

-- the words of the cells, cell after cell
abbrev pub Store : Type 0
Store = List ℤ

abbrev pub word_at : Store → ℕ → ℤ
word_at store place = slice_index_or store place (pos 0)

-- outside of an array there is 0
abbrev pub element_at : Store → (first size : ℕ) → ℤ → ℤ
element_at store first size (pos i) = if nat_lt i size then word_at store (first + i) else pos 0
element_at store first size (negsuc i) = pos 0

-- and a write there does nothing
abbrev pub with_element : Store → (first size : ℕ) → ℤ → ℤ → Store
with_element store first size (pos i) word = if nat_lt i size then slice_set store (first + i) word else store
with_element store first size (negsuc i) word = store

abbrev mutual
  -- the word that an expression is worth
  pub value : Expression → Store → ℤ
  value (number n) store = word_of (pos n)
  value (cell place) store = word_at store place
  value (element first size index) store = element_at store first size (value index store)
  value (unary op e) store = unary_of op (value e store)
  value (chain e rest) store = operated rest (value e store) store

  pub operated : Operands → ℤ → Store → ℤ
  operated alone so_far store = so_far
  operated (operand op e rest) so_far store = operated rest (binary_of op so_far (value e store)) store

-- a test holds where its word isn't 0
abbrev pub holds : Expression → Store → Bool
holds test store = is_true (value test store)

abbrev pub value_or_zero : Option Expression → Store → ℤ
value_or_zero None store = pos 0
value_or_zero (Some e) store = value e store

-- a word goes to its goal; the goal's index is worked out once the word is there
abbrev pub put : Goal → ℤ → Store → Store
put nowhere word store = store
put (to_cell place) word store = slice_set store place word
put (to_element first size index) word store = with_element store first size (value index store) word

-- words go to places, one after another
abbrev pub set_all : List ℕ → List ℤ → Store → Store
set_all [] words store = store
set_all (place ∷ places) [] store = store
set_all (place ∷ places) (word ∷ words) store = set_all places words (slice_set store place word)

abbrev pub values : List Expression → Store → List ℤ
values [] store = []
values (e ∷ es) store = value e store ∷ values es store

-- the locals are set in their order; one without a value is set to 0
abbrev pub set_locals : List (ℕ × Option Expression) → Store → Store
set_locals [] store = store
set_locals (l ∷ locals) store = set_locals locals (slice_set store l.0 (value_or_zero l.1 store))
