-- The rules on names, each as a condition on the whole program: docs/language.md, "Names".
use Rattle.std.specs.Prelude.{◌≡◌, ℕ, ◌<◌, ◌≤◌, Bool, true, false, ◌||◌, ◌&&◌, not, List, [], ◌∷◌, ◌++◌, Option, Some, None, Contains, find, length, nat_eq}
use Rattle.std.specs.List.{list_any}
use Rattle.pt_base.specs.First.{end_of}
use Rattle.pt_base.specs.declared.Rule.{Rule}
use Rattle.pt_base.specs.declared.Rule.TheVariants.{N1, N2, N3, N4, N5, N6, N7, N8}
use Rattle.pt_base.specs.declared.Span.{Span}
use Rattle.pc_grammar.specs.declared.expressions.Word.{Word}
use Rattle.pc_grammar.specs.declared.programs.CellKind.{CellKind}
use Rattle.pc_grammar.specs.declared.programs.CellKind.TheVariants.{Input}
use Rattle.pc_grammar.specs.declared.programs.Item.{Item}
use Rattle.pc_grammar.specs.declared.programs.Item.TheVariants.{Scalar, Array, Function}
use Rattle.pc_grammar.specs.declared.roles.Role.{Role}
use Rattle.pc_grammar.specs.declared.roles.Role.TheVariants.{Reads, ReadsElement, Writes, WritesElement, Calls, Starts}
use Rattle.pc_grammar.specs.Uses.{holds_pause}
use Rattle.pc_grammar.specs.Places.{Place, places, Found, Unknown, Own, Known, found, word_of, same_text, is_among, has_name, names_of, is_start, is_main, is_thread}

-- ---- the wrong kind

-- what may not be done with a cell of one word
abbrev pub wrong_for_word : Role → Bool
wrong_for_word Reads = false
wrong_for_word Writes = false
wrong_for_word _ = true

abbrev pub wrong_for_array : Role → Bool
wrong_for_array ReadsElement = false
wrong_for_array WritesElement = false
wrong_for_array _ = true

abbrev pub is_some_word : List Word → Bool
is_some_word [] = false
is_some_word (w ∷ ws) = true

-- a function is called where it is no thread, with a target only where it has a result; a `PAR` names a `void` function
-- without parameters
abbrev pub wrong_for_function : Bool → Bool → List Word → Role → Bool
wrong_for_function thread gives parameters (Calls arguments taken) = thread || (taken && not gives)
wrong_for_function thread gives parameters Starts = gives || is_some_word parameters
wrong_for_function thread gives parameters _ = true

abbrev pub wrong_for_item : List Item → Item → Role → Bool
wrong_for_item items (Scalar kind name start) role = wrong_for_word role
wrong_for_item items (Array name size) role = wrong_for_array role
wrong_for_item items (Function name gives parameters locals body result) role = wrong_for_function (is_thread items name) gives parameters role

unfoldable pub is_wrong : List Item → Role → Found → Bool
is_wrong items role Unknown = false
is_wrong items role Own = wrong_for_word role
is_wrong items role (Known item) = wrong_for_item items item role

-- ---- the other rules at a place

abbrev pub is_written : Role → Bool
is_written Writes = true
is_written WritesElement = true
is_written _ = false

abbrev pub is_input_kind : CellKind → Bool
is_input_kind Input = true
is_input_kind _ = false

abbrev pub is_input : Found → Bool
is_input (Known (Scalar kind name start)) = is_input_kind kind
is_input _ = false

-- whether a call has another number of arguments than what it names has parameters
abbrev pub is_miscounted : Role → Found → Bool
is_miscounted (Calls arguments taken) (Known (Function name gives parameters locals body result)) = not (nat_eq arguments (length parameters))
is_miscounted _ _ = false

-- ---- items and functions

-- `void main` without parameters
abbrev pub is_main_item : Item → Bool
is_main_item (Function name false [] locals body result) = is_main name
is_main_item _ = false

abbrev pub is_named_main : Item → Bool
is_named_main item = is_main (word_of item)

-- the name of the first item `main`, or the end
abbrev pub main_place : ℕ → Option Item → Span
main_place length None = end_of length
main_place length (Some item) = (word_of item).span

-- the names that a function declares, in order
abbrev pub own_of : Item → List Word
own_of (Function name gives parameters locals body result) = parameters ++ names_of locals
own_of _ = []

abbrev pub holds_some_pause : Item → Bool
holds_some_pause (Function name gives parameters locals body result) = list_any holds_pause body
holds_some_pause _ = false

-- a place in a `PAR` that has this name
abbrev pub starts_text : Word → Place → Bool
starts_text w p = is_start p.role && same_text w p.word

-- ---- what is broken, and where

pub data Breaks (items : List Item) (end : ℕ) : Rule → Span → Type 0 where
  item_twice : (before after : List Item) (i : Item) → items ≡ before ++ i ∷ after → list_any (has_name (word_of i)) before ≡ true → Breaks items end N1 (word_of i).span
  own_twice : (i : Item) (before after : List Word) (w : Word) → Contains items i → own_of i ≡ before ++ w ∷ after → is_among w before ≡ true → Breaks items end N1 w.span
  unknown : (p : Place) → Contains (places items) p → found p ≡ Unknown → Breaks items end N2 p.word.span
  wrong_kind : (p : Place) → Contains (places items) p → is_wrong items p.role (found p) ≡ true → Breaks items end N3 p.word.span
  input_written : (p : Place) → Contains (places items) p → is_written p.role ≡ true → is_input (found p) ≡ true → Breaks items end N4 p.word.span
  miscounted : (p : Place) → Contains (places items) p → is_miscounted p.role (found p) ≡ true → Breaks items end N5 p.word.span
  no_main : list_any is_main_item items ≡ false → Breaks items end N6 (main_place end (find is_named_main items))
  started_twice : (before after : List Place) (p : Place) → places items ≡ before ++ p ∷ after → is_start p.role ≡ true →
      is_main p.word || list_any (starts_text p.word) before ≡ true → Breaks items end N7 p.word.span
  no_thread : (i : Item) → Contains items i → is_thread items (word_of i) ≡ false → holds_some_pause i ≡ true → Breaks items end N8 (word_of i).span
