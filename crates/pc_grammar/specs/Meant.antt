-- What the numbers of a program name: docs/language.md, "Names". A law on every program that keeps the rules on names.
use Rattle.std.specs.Prelude.{◌≡◌, ℕ, ◌<◌, ◌≤◌, ◌^◌, ◌||◌, Bool, true, false, List, [], ◌∷◌, ◌++◌, All, Contains, Some, length, map, slice_get, filter}
use Rattle.std.specs.List.{list_any}
use Rattle.pc_grammar.specs.declared.programs.CellKind.{CellKind}
use Rattle.pc_grammar.specs.declared.programs.CellKind.TheVariants.{Input, Output, Plain, Array, Parameter, Local}
use Rattle.pc_grammar.specs.declared.roles.Role.{Role}
use Rattle.pc_grammar.specs.declared.roles.Role.TheVariants.{Reads, ReadsElement, Writes, WritesElement, Calls, Starts}
use Rattle.pc_grammar.specs.declared.typed.Cell.{Cell}
use Rattle.pc_grammar.specs.declared.typed.Function.{Function}
use Rattle.pc_grammar.specs.Uses.{Use, joined, value_uses, statements_uses, holds_pause}
use Rattle.pc_grammar.specs.Places.{is_start}
use Rattle.pc_grammar.specs.Breaking.{is_input_kind}
use Rattle.pc_grammar.specs.Typing.{Typing}
use Rattle.pc_grammar.specs.Keeping.{IsTyped}

-- ---- what a function names, in the order of the text

abbrev pub function_uses : Function → List (Use ℕ)
function_uses f = joined (map (λ p. value_uses p.1) f.locals) ++ (statements_uses f.body ++ value_uses f.result)

-- ---- cells

-- a cell that an item declares
abbrev pub is_item_kind : CellKind → Bool
is_item_kind Parameter = false
is_item_kind Local = false
is_item_kind _ = true

abbrev pub is_array_kind : CellKind → Bool
is_array_kind Array = true
is_array_kind _ = false

abbrev pub own_cells : Function → List ℕ
own_cells f = f.parameters ++ map (λ p. p.0) f.locals

-- a function names items, and its own parameters and locals
pub data IsNear (f : Function) (number : ℕ) (cell : Cell) : Type 0 where
  item : is_item_kind cell.kind ≡ true → IsNear f number cell
  own : Contains (own_cells f) number → IsNear f number cell

-- a cell of one word where no index stands, an array where one stands; an input is read only
pub record NamesCell (t : Typing) (f : Function) (indexed written : Bool) (number : ℕ) : Type 0 where
  pub cell : Cell
  pub at : slice_get t.cells number ≡ Some cell
  pub near : IsNear f number cell
  pub kind : is_array_kind cell.kind ≡ indexed
  pub free : written ≡ true → is_input_kind cell.kind ≡ false

-- ---- functions

-- a call names an earlier function, which is a routine with so many parameters, and has a result where one is taken
pub record NamesRoutine (t : Typing) (i arguments : ℕ) (taken : Bool) (number : ℕ) : Type 0 where
  pub routine : Function
  pub at : slice_get t.functions number ≡ Some routine
  pub earlier : number < i
  pub no_thread : routine.thread ≡ false
  pub counted : length routine.parameters ≡ arguments
  pub gives : taken ≡ true → routine.gives ≡ true

-- a `PAR` names earlier functions, which are threads without parameters and result
pub record NamesThread (t : Typing) (i number : ℕ) : Type 0 where
  pub thread : Function
  pub at : slice_get t.functions number ≡ Some thread
  pub earlier : number < i
  pub is_thread : thread.thread ≡ true
  pub bare : thread.parameters ≡ []
  pub plain : thread.gives ≡ false

-- what a number names in function `i`, by what it does there
abbrev pub means : Typing → ℕ → Function → Role → ℕ → Type 0
means t i f Reads = NamesCell t f false false
means t i f ReadsElement = NamesCell t f true false
means t i f Writes = NamesCell t f false true
means t i f WritesElement = NamesCell t f true true
means t i f (Calls arguments taken) = NamesRoutine t i arguments taken
means t i f Starts = NamesThread t i

abbrev pub IsMeant : Typing → ℕ → Function → Use ℕ → Type 0
IsMeant t i f u = means t i f u.role u.word

-- ---- the whole program

-- the functions that a `PAR` names, in the order of the text
abbrev pub starts_in : List (Use ℕ) → List ℕ
starts_in uses = map (λ u. u.word) (filter (λ u. is_start u.role) uses)

abbrev pub started : Typing → List ℕ
started t = starts_in (joined (map function_uses t.functions))

-- no number stands twice
abbrev pub IsOnce : List ℕ → Type 0
IsOnce ns = (before after : List ℕ) (n : ℕ) → ns ≡ before ++ n ∷ after → Contains before n → ⊥

-- `main` is a thread without parameters and result
pub record IsMain (t : Typing) : Type 0 where
  pub function : Function
  pub at : slice_get t.functions t.main ≡ Some function
  pub is_thread : function.thread ≡ true
  pub bare : function.parameters ≡ []
  pub plain : function.gives ≡ false

-- each name is one of the right kind; each function but `main` stands in at most one `PAR`, and `main` in none; and
-- routines hold no pause
pub record MeansWell (t : Typing) : Type 0 where
  pub main : IsMain t
  pub meant : (i : ℕ) (f : Function) → slice_get t.functions i ≡ Some f → (u : Use ℕ) → Contains (function_uses f) u → IsMeant t i f u
  pub once : IsOnce (t.main ∷ started t)
  pub runs : (i : ℕ) (f : Function) → slice_get t.functions i ≡ Some f → f.thread ≡ false → list_any holds_pause f.body ≡ false

-- so it is of every program that comes of one of the grammar and breaks no rule on names
abbrev pub NamesMeanWell : Type 0
NamesMeanWell = (t : Typing) → IsTyped t → MeansWell t
