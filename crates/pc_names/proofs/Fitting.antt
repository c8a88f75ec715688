-- Where no rule on names is broken, a program's names can be numbered.
use Rattle.std.proofs.Common.{◌≡◌, ℕ, suc, ◌+◌, ◌<◌, ◌≤◌, ◌^◌, Bool, true, false, List, [], ◌∷◌, ◌++◌, Option, map, length, take, drop, get_or, refl, sym, ap, subst, ◌∙◌, arith, length-append}
use Rattle.std.specs.Prelude.{Contains}
use Rattle.std.proofs.lemmas.List.{map-append, length-map, take-append-drop}
use Rattle.pt_base.proofs.Elements.{in_head, in_right}
use Rattle.pt_base.specs.declared.Rule.{Rule}
use Rattle.pt_base.specs.declared.Rule.TheVariants.{N1}
use Rattle.pt_base.specs.declared.rules.Span.{Span}
use Rattle.pc_grammar.specs.declared.expressions.Word.{Word}
use Rattle.pc_grammar.specs.declared.expressions.Expr.{Expr}
use Rattle.pc_grammar.specs.declared.programs.Item.{Item}
use Rattle.pc_grammar.specs.declared.programs.CellKind.TheVariants.{Parameter, Local}
use Rattle.pc_grammar.specs.declared.programs.Item.TheVariants.{Scalar, Array, Function}
use Rattle.pc_grammar.specs.Trees.{Program, IsTree}
use Rattle.pc_grammar.specs.Spans.{each, optional, name_spans, local_spans, expression_spans, statement_spans, frame_spans, item_spans, spans_of, Rises}
use Rattle.pc_grammar.proofs.ItemSpans.{rise}
use Rattle.pc_grammar.specs.Places.{word_of, is_among, names_of, same_text}
use Rattle.pc_grammar.specs.Breaking.{Breaks, item_twice, own_twice, own_of}
use Rattle.pc_grammar.specs.Typing.{cell_of, item_cells, cells_of, functions_in}
use Rattle.pc_grammar.proofs.Lists.{next_at}
use Rattle.pc_grammar.proofs.Standing.{cells_append, functions_append}
use Rattle.pc_names.specs.Known.{functions_of}
use Rattle.pc_names.specs.Names.{AreOnce, CanBeNumbered}
use Rattle.pc_names.proofs.Repeats.{list_any-map, map_split}
use Rattle.pc_names.proofs.Starts.{one_function}

-- ---- names

not_true : (b : Bool) → (b ≡ true → ⊥) → b ≡ false
not_true true h = absurd (h refl)
not_true false h = refl

abbrev Unbroken : List Item → ℕ → Type 0
Unbroken items end = (rule : Rule) (span : Span) → Breaks items end rule span → ⊥

items_once : (items : List Item) (end : ℕ) → Unbroken items end → AreOnce (map word_of items)
items_once items end unbroken before after w is =
    let s = map_split word_of items before after w is in
    not_true (is_among w before) (λ there. unbroken N1 (word_of s.element).span (item_twice s.before s.after s.element s.is
    (sym (list_any-map (same_text (word_of s.element)) word_of s.before) ∙ ap (is_among (word_of s.element)) s.front ∙ ap (λ v. is_among v before) s.maps ∙ there)))

own_once : (items : List Item) (end : ℕ) → Unbroken items end → (i : Item) → Contains items i → AreOnce (own_of i)
own_once items end unbroken i listed before after w is = not_true (is_among w before) (λ there. unbroken N1 w.span (own_twice i before after w listed is there))

-- ---- each declared name has a place of its own in the text

spans_fit : (from to : ℕ) (spans : List Span) → Rises from spans to → from + length spans ≤ to
spans_fit from to [] h = omega (arith, h)
spans_fit from to (s ∷ spans) h =
    let rest = spans_fit s.to to spans h.2 in
    let first : from ≤ s.from = h.0 in
    let next : s.from < s.to = h.1 in
    omega (arith, rest, first, next)

names_counted : (words : List Word) → length (each name_spans words) ≡ length words
names_counted [] = refl
names_counted (w ∷ words) = ap suc (names_counted words)

locals_counted : (locals : List (Word × Option (Expr Word))) → length locals ≤ length (each local_spans locals)
locals_counted [] = omega arith
locals_counted (p ∷ locals) =
    let more = locals_counted locals in
    let parts : length (each local_spans (p ∷ locals)) ≡ length (local_spans p) + length (each local_spans locals) = length-append (local_spans p) (each local_spans locals) in
    let one : 1 ≤ length (local_spans p) = omega arith in
    omega (arith, more, parts, one)

pub own_length : (parameters : List Word) (locals : List (Word × Option (Expr Word))) → length (parameters ++ names_of locals) ≡ length parameters + length locals
own_length parameters locals = length-append parameters (names_of locals) ∙ ap (λ n. length parameters + n) (length-map locals (λ p. p.0))

pub own_counted : (parameters : List Word) (locals : List (Word × Option (Expr Word))) →
    length (map (cell_of Parameter) parameters ++ map (cell_of Local) (names_of locals)) ≡ length parameters + length locals
own_counted parameters locals =
    length-append (map (cell_of Parameter) parameters) (map (cell_of Local) (names_of locals))
    ∙ ap (λ n. n + length (map (cell_of Local) (names_of locals))) (length-map parameters (cell_of Parameter))
    ∙ ap (λ n. length parameters + n) (length-map (names_of locals) (cell_of Local) ∙ length-map locals (λ p. p.0))

item_counted : (i : Item) → length (item_cells i) ≤ length (item_spans i)
item_counted (Scalar kind name start) = omega arith
item_counted (Array name size) = omega arith
item_counted (Function name gives parameters locals body result) =
    let cells = own_counted parameters locals in
    let whole = length-append (frame_spans parameters locals body) (optional expression_spans result) in
    let frame = length-append (each name_spans parameters) (each local_spans locals ++ each statement_spans body) in
    let declared = length-append (each local_spans locals) (each statement_spans body) in
    omega (arith, cells, whole, frame, declared, names_counted parameters, locals_counted locals)

one_counted : (i : Item) → (functions_of i ≤ length (item_spans i)) × (functions_of i ≤ 1)
one_counted (Scalar kind name start) = (omega arith, omega arith)
one_counted (Array name size) = (omega arith, omega arith)
one_counted (Function name gives parameters locals body result) = (omega arith, omega arith)

cells_counted : (items : List Item) → length (cells_of items) ≤ length (spans_of items)
cells_counted [] = omega arith
cells_counted (i ∷ items) =
    let cells = length-append (item_cells i) (cells_of items) in
    let spans = length-append (item_spans i) (spans_of items) in
    omega (arith, cells, spans, item_counted i, cells_counted items)

functions_counted : (items : List Item) → functions_in items ≤ length (spans_of items)
functions_counted [] = omega arith
functions_counted (i ∷ items) =
    let spans = length-append (item_spans i) (spans_of items) in
    let one = one_counted i in
    omega (arith, one_function i items, spans, one.0, functions_counted items)

pub can_be_numbered : (program : Program) → IsTree program → program.length < 2 ^ 32 → Unbroken program.items program.length → CanBeNumbered program.items
can_be_numbered program tree short unbroken =
    let spans : 0 + length (spans_of program.items) ≤ program.length = spans_fit 0 program.length (spans_of program.items) (rise program tree) in
    record {
      items_once = items_once program.items program.length unbroken;
      own_once = own_once program.items program.length unbroken;
      cells_fit = let cells = cells_counted program.items in omega (arith, spans, cells, short);
      functions_fit = let functions = functions_counted program.items in omega (arith, spans, functions, short);
    }

-- ---- at an item

pub record At (items : List Item) (place : ℕ) (item : Item) : Type 0 where
  pub after : List Item
  pub is : items ≡ take place items ++ item ∷ after
  pub listed : Contains items item

pub at : (items : List Item) (place : ℕ) (item : Item) → place < length items → item ≡ get_or items place item → At items place item
at items place item inside is =
    let whole : items ≡ take place items ++ item ∷ drop (place + 1) items = sym (take-append-drop place items) ∙ ap (λ rest. take place items ++ rest) (next_at items place item inside is) in
    record {
      after = drop (place + 1) items;
      is = whole;
      listed = subst (λ all. Contains all item) (sym whole) (in_right (take place items) (item ∷ drop (place + 1) items) item (in_head item (drop (place + 1) items)));
    }

pub cells_at : (items : List Item) (place : ℕ) (item : Item) → CanBeNumbered items → At items place item → length (cells_of (take place items)) + length (item_cells item) < 2 ^ 32
cells_at items place item can at =
    let before = take place items in
    let all : length (cells_of items) ≡ length (cells_of before) + length (cells_of (item ∷ at.after)) =
    ap (λ is. length (cells_of is)) at.is ∙ ap length (cells_append before (item ∷ at.after)) ∙ length-append (cells_of before) (cells_of (item ∷ at.after)) in
    let here = length-append (item_cells item) (cells_of at.after) in
    omega (arith, all, here, can.cells_fit)

pub functions_at : (items : List Item) (place : ℕ) (item : Item) → CanBeNumbered items → At items place item → functions_in (take place items) + functions_of item < 2 ^ 32
functions_at items place item can at =
    let before = take place items in
    let all : functions_in items ≡ functions_in before + functions_in (item ∷ at.after) = ap functions_in at.is ∙ functions_append before (item ∷ at.after) in
    omega (arith, all, one_function item at.after, can.functions_fit)

pub new_at : (items : List Item) (place : ℕ) (item : Item) → CanBeNumbered items → At items place item → is_among (word_of item) (map word_of (take place items)) ≡ false
new_at items place item can at =
    let before = take place items in
    can.items_once (map word_of before) (map word_of at.after) (word_of item) (ap (map word_of) at.is ∙ map-append word_of before (item ∷ at.after))

-- the cells of an item are as many as it declares itself, or more
pub own_fits : (item : Item) → length (own_of item) ≤ length (item_cells item)
own_fits (Scalar kind name start) = omega arith
own_fits (Array name size) = omega arith
own_fits (Function name gives parameters locals body result) = omega (arith, own_counted parameters locals, own_length parameters locals)

pub front_fits : (items : List Item) (place : ℕ) → functions_in items < 2 ^ 32 → functions_in (take place items) < 2 ^ 32
front_fits items place fit =
    let all : functions_in items ≡ functions_in (take place items) + functions_in (drop place items) =
    ap functions_in (sym (take-append-drop place items)) ∙ functions_append (take place items) (drop place items) in
    omega (arith, all, fit)
