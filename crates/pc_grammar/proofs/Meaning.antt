-- A program that keeps the rules on names means well.
use Rattle.std.proofs.Common.{◌≡◌, ℕ, zero, suc, ◌+◌, ◌<◌, Bool, true, false, cond, ◌||◌, ◌&&◌, List, [], ◌∷◌, ◌++◌, ◌⊎◌, inl, inr, ⊎_elim, Option, Some, None, map, length, take, refl, sym, ap, subst, ◌∙◌, append_assoc, length-append, arith}
use Rattle.std.specs.Prelude.{Contains, find, filter, not, position, slice_get, nat_eq, unwrap_or, codes}
use Rattle.std.specs.List.{list_any}
use Rattle.std.specs.Str.{bytes_eq}
use Rattle.std.proofs.lemmas.Slice.Eq.{bytes_eq-Decides}
use Rattle.std.proofs.lemmas.Bool.{eqb-true}
use Rattle.std.proofs.lemmas.List.{length-map, map-append}
use Rattle.pt_base.specs.declared.rules.Rule.{Rule}
use Rattle.pt_base.specs.declared.rules.Span.{Span}
use Rattle.pt_base.proofs.Elements.{in_head, in_tail, in_cases, in_none, in_left, in_right}
use Rattle.pc_grammar.specs.declared.expressions.Word.{Word}
use Rattle.pc_grammar.specs.declared.expressions.Expr.{Expr}
use Rattle.pc_grammar.specs.declared.statements.Stmt.{Stmt}
use Rattle.pc_grammar.specs.declared.programs.CellKind.{CellKind}
use Rattle.pc_grammar.specs.declared.programs.CellKind.TheVariants.{Input, Output, Plain, Array as ArrayKind, Parameter, Local}
use Rattle.pc_grammar.specs.declared.programs.Item.{Item}
use Rattle.pc_grammar.specs.declared.programs.Item.TheVariants.{Scalar, Array, Function as FunctionItem}
use Rattle.pc_grammar.specs.declared.roles.Role.{Role}
use Rattle.pc_grammar.specs.declared.roles.Role.TheVariants.{Reads, ReadsElement, Writes, WritesElement, Calls, Starts}
use Rattle.pc_grammar.specs.declared.typed.Cell.{Cell}
use Rattle.pc_grammar.specs.declared.typed.Function.{Function}
use Rattle.pc_grammar.specs.Uses.{Use, holds_pause}
use Rattle.pc_grammar.specs.Places.{Place, places, item_places, Found, Unknown, Own, Known, found, found_among, word_of, same_text, is_among, has_name, names_of, is_start, starts, is_main, is_thread}
use Rattle.pc_grammar.specs.Breaking.{Breaks, unknown, wrong_kind, input_written, miscounted, no_main, started_twice, no_thread, wrong_for_word, wrong_for_array, wrong_for_function, is_some_word, is_wrong, is_written, is_input_kind, is_input, is_miscounted, is_main_item, holds_some_pause, starts_text}
use Rattle.pc_grammar.specs.Typing.{Typing, cell_of, item_cells, cells_of, until, own_number, cell_number, functions_in, function_number, numbers_from, typed_locals, typed_item, typed_from, numbered_statement, typing_of}
use Rattle.pc_grammar.specs.Meant.{function_uses, is_item_kind, is_array_kind, own_cells, IsNear, item, own, NamesCell, NamesRoutine, NamesThread, means, IsMeant, starts_in, started, IsOnce, IsMain, MeansWell}
use Rattle.pc_grammar.proofs.Renaming.{number_in, same_pause}
use Rattle.pc_grammar.proofs.FirstPassing.{left_true, right_true, both_true, is_false, or_left, or_right, any_contains, Given, in_map, in_filter, get_left, get_right, get_seam, contains_get, Cut, cut_found, Any, cut_any, cut_none, Split, split_filter}
use Rattle.pc_grammar.proofs.Standing.{cells_append, functions_append, Declared, declared, typed_at, Stands, place_stands, places_inside, PlacedIn, placed_in, numbered_place, item_placed, all_placed}

-- ---- names are the same

same_bytes : (a b : Word) → same_text a b ≡ true → a.text ≡ b.text
same_bytes a b e = (bytes_eq-Decides a.text b.text).0 e

bytes_same : (a b : Word) → a.text ≡ b.text → same_text a b ≡ true
bytes_same a b e = (bytes_eq-Decides a.text b.text).1 e

-- ---- what a place sees

data View (p : Place) : Type 0 where
  hidden : (x : Word) → found p ≡ Own → Cut (same_text p.word) p.own x → View p
  known : (i : Item) → found p ≡ Known i → is_among p.word p.own ≡ false → Cut (has_name p.word) p.before i → View p
  nowhere : found p ≡ Unknown → View p

view : (p : Place) → View p
unfolding found
view p = by_own (is_among p.word p.own) refl
  where
    by_item : (o : Option Item) → find (has_name p.word) p.before ≡ o → is_among p.word p.own ≡ false → View p
    by_item None e calm = nowhere (ap (λ b. cond b Own (found_among (find (has_name p.word) p.before))) calm ∙ ap found_among e)
    by_item (Some i) e calm = known i (ap (λ b. cond b Own (found_among (find (has_name p.word) p.before))) calm ∙ ap found_among e) calm (cut_found (has_name p.word) p.before i e)

    by_own : (b : Bool) → is_among p.word p.own ≡ b → View p
    by_own true e = let a = cut_any (same_text p.word) p.own e in hidden a.of (ap (λ b. cond b Own (found_among (find (has_name p.word) p.before))) e) a.cut
    by_own false e = by_item (find (has_name p.word) p.before) refl e

-- ---- own cells

record OwnCell (parameters : List Word) (locals : List Word) (k : ℕ) : Type 0 where
  pub cell : Cell
  pub at : slice_get (map (cell_of Parameter) parameters ++ map (cell_of Local) locals) k ≡ Some cell
  pub plain : is_array_kind cell.kind ≡ false
  pub no_input : is_input_kind cell.kind ≡ false

own_cell : (parameters locals : List Word) (k : ℕ) (x : Word) → slice_get (parameters ++ locals) k ≡ Some x → OwnCell parameters locals k
own_cell [] [] k x h = absurd (cc)
own_cell [] (w ∷ locals) zero x h = record { cell = cell_of Local w; at = refl; plain = refl; no_input = refl }
own_cell [] (w ∷ locals) (suc k) x h = let c = own_cell [] locals k x h in record { cell = c.cell; at = c.at; plain = c.plain; no_input = c.no_input }
own_cell (w ∷ parameters) locals zero x h = record { cell = cell_of Parameter w; at = refl; plain = refl; no_input = refl }
own_cell (w ∷ parameters) locals (suc k) x h = let c = own_cell parameters locals k x h in record { cell = c.cell; at = c.at; plain = c.plain; no_input = c.no_input }

length_numbers : {A : Type 0} (n : ℕ) (xs : List A) → length (numbers_from n xs) ≡ length xs
length_numbers n [] = refl
length_numbers n (x ∷ xs) = ap suc (length_numbers (n + 1) xs)

numbers_append : {A : Type 0} (n : ℕ) (xs ys : List A) → numbers_from n (xs ++ ys) ≡ numbers_from n xs ++ numbers_from (n + length xs) ys
numbers_append n [] ys = let e : n ≡ n + 0 = omega arith in ap (λ m. numbers_from m ys) e
numbers_append n (x ∷ xs) ys =
    let e : n + 1 + length xs ≡ n + suc (length xs) = omega arith in
    ap (λ ns. n ∷ ns) (numbers_append (n + 1) xs ys ∙ ap (λ m. numbers_from (n + 1) xs ++ numbers_from m ys) e)

local_numbers : (before : List Item) (mine : List Word) (locals : List (Word × Option (Expr Word))) → map (λ p. p.0) (typed_locals before mine locals) ≡ numbers_from (length (cells_of before) + length mine) (names_of locals)
local_numbers before mine [] = refl
local_numbers before mine (l ∷ locals) =
    let e : length (cells_of before) + length (mine ++ l.0 ∷ []) ≡ length (cells_of before) + length mine + 1 = omega (arith, length-append mine (l.0 ∷ [])) in
    ap (λ ns. (length (cells_of before) + length mine) ∷ ns) (local_numbers before (mine ++ l.0 ∷ []) locals ∙ ap (λ m. numbers_from m (names_of locals)) e)

own_numbers : (before : List Item) (parameters : List Word) (locals : List (Word × Option (Expr Word))) →
    numbers_from (length (cells_of before)) parameters ++ map (λ p. p.0) (typed_locals before parameters locals) ≡ numbers_from (length (cells_of before)) (parameters ++ names_of locals)
own_numbers before parameters locals =
    ap (λ ns. numbers_from (length (cells_of before)) parameters ++ ns) (local_numbers before parameters locals)
    ∙ sym (numbers_append (length (cells_of before)) parameters (names_of locals))

number_at : {A : Type 0} (n : ℕ) (xs : List A) (k : ℕ) (x : A) → slice_get xs k ≡ Some x → slice_get (numbers_from n xs) k ≡ Some (n + k)
number_at n [] k x h = absurd (cc)
number_at n (y ∷ xs) zero x h = let e : n ≡ n + 0 = omega arith in ap Some e
number_at n (y ∷ xs) (suc k) x h = let e : n + 1 + k ≡ n + suc k = omega arith in number_at (n + 1) xs k x h ∙ ap Some e

-- ---- a program that breaks no rule on names

abbrev pub is_scalar_kind : CellKind → Bool
is_scalar_kind Input = true
is_scalar_kind Output = true
is_scalar_kind Plain = true
is_scalar_kind _ = false

abbrev pub is_scalar : Item → Bool
is_scalar (Scalar kind name start) = is_scalar_kind kind
is_scalar _ = true

scalar_item : (kind : CellKind) → is_scalar_kind kind ≡ true → is_item_kind kind ≡ true
scalar_item Input e = refl
scalar_item Output e = refl
scalar_item Plain e = refl
scalar_item ArrayKind e = refl
scalar_item Parameter e = absurd (cc)
scalar_item Local e = absurd (cc)

scalar_plain : (kind : CellKind) → is_scalar_kind kind ≡ true → is_array_kind kind ≡ false
scalar_plain Input e = refl
scalar_plain Output e = refl
scalar_plain Plain e = refl
scalar_plain ArrayKind e = absurd (cc)
scalar_plain Parameter e = refl
scalar_plain Local e = refl

some_or_none : (ws : List Word) → is_some_word ws ≡ false → ws ≡ []
some_or_none [] e = refl
some_or_none (w ∷ ws) e = absurd (cc)

or_false_left : (a b : Bool) → (a || b) ≡ false → a ≡ false
or_false_left true b e = absurd (cc)
or_false_left false b e = refl

or_false_right : (a b : Bool) → (a || b) ≡ false → b ≡ false
or_false_right true b e = absurd (cc)
or_false_right false b e = e

implied : (a b : Bool) → (a && not b) ≡ false → a ≡ true → b ≡ true
implied a true e h = refl
implied true false e h = absurd (cc)
implied false false e h = absurd (cc)

not_false : (b : Bool) → not b ≡ false → b ≡ true
not_false true e = refl
not_false false e = absurd (cc)

module _ (items : List Item) (end : ℕ) (unbroken : (rule : Rule) (span : Span) → Breaks items end rule span → ⊥) (scalars : (i : Item) → Contains items i → is_scalar i ≡ true) where
  abbrev whole : Typing
  whole = record { cells = cells_of items; functions = typed_from items [] items; main = functions_in (take (unwrap_or (position is_main_item items) 0) items); length = end }

  -- what holds at each place
  right_kind : (p : Place) → Contains (places items) p → is_wrong items p.role (found p) ≡ false
  right_kind p h = is_false _ (λ e. unbroken _ _ (wrong_kind p h e))

  right_at : (p : Place) (x : Found) → Contains (places items) p → found p ≡ x → is_wrong items p.role x ≡ false
  right_at p x h e = ap (is_wrong items p.role) (sym e) ∙ right_kind p h

  -- ---- where a place stands: in a function of the program

  record Spot (p : Place) (i : ℕ) (f : Function) : Type 0 where
    before : List Item
    name : Word
    gives : Bool
    parameters : List Word
    locals : List (Word × Option (Expr Word))
    body : List (Stmt Word)
    result : Option (Expr Word)
    after : List Item
    is_whole : items ≡ before ++ FunctionItem name gives parameters locals body result ∷ after
    typed : typed_item items before (FunctionItem name gives parameters locals body result) ≡ f ∷ []
    number : i ≡ functions_in before
    listed : Contains (places items) p
    stands : Stands before (parameters ++ names_of locals) p

  -- the item that a place knows stands in the program
  record Seen (p : Place) (i : Item) : Type 0 where
    after : List Item
    is_whole : items ≡ until p.word p.before ++ i ∷ after

  seen : (p : Place) (i : ℕ) (f : Function) (x : Item) → Spot p i f → Cut (has_name p.word) p.before x → Seen p x
  seen p i f x s c =
      let here : p.before ≡ until p.word p.before ++ x ∷ c.after = c.whole ∙ ap (λ k. take k p.before ++ x ∷ c.after) (sym (ap (λ o. unwrap_or o 0) c.at)) in
      let rest : List Item = FunctionItem s.name s.gives s.parameters s.locals s.body s.result ∷ s.after in
      record {
        after = c.after ++ rest;
        is_whole = s.is_whole ∙ ap (λ zs. zs ++ rest) (sym s.stands.before_is ∙ here) ∙ append_assoc (until p.word p.before) (x ∷ c.after) rest;
      }

  item_cell : (p : Place) (x : Item) (cell : Cell) (rest : List Cell) → Seen p x → is_among p.word p.own ≡ false → item_cells x ≡ cell ∷ rest → slice_get (cells_of items) (cell_number p.before p.own p.word) ≡ Some cell
  unfolding cell_number
  item_cell p x cell rest s calm are =
      ap (λ o. slice_get (cells_of items) (own_number (length (cells_of p.before)) p.before p.word o)) (cut_none (same_text p.word) p.own calm)
      ∙ ap (λ cs. slice_get cs (length (cells_of (until p.word p.before)))) (ap cells_of s.is_whole ∙ cells_append (until p.word p.before) (x ∷ s.after) ∙ ap (λ cs. cells_of (until p.word p.before) ++ (cs ++ cells_of s.after)) are)
      ∙ get_seam (cells_of (until p.word p.before)) (rest ++ cells_of s.after) cell

  in_program : (p : Place) (x : Item) → Seen p x → Contains items x
  in_program p x s = subst (λ zs. Contains zs x) (sym s.is_whole) (in_right (until p.word p.before) (x ∷ s.after) x (in_head x s.after))

  -- ---- a cell that is hidden by a parameter or a local

  own_means : (p : Place) (i : ℕ) (f : Function) (x : Word) (written : Bool) → Spot p i f → Cut (same_text p.word) p.own x → NamesCell whole f false written (cell_number p.before p.own p.word)
  unfolding cell_number
  own_means p i f x written s c =
      let base : ℕ = length (cells_of s.before) in
      let names : List Word = s.parameters ++ names_of s.locals in
      let here : slice_get p.own c.number ≡ Some x = ap (λ zs. slice_get zs c.number) c.whole ∙ ap (λ k. slice_get (take c.number p.own ++ x ∷ c.after) k) (sym c.counted) ∙ get_seam (take c.number p.own) c.after x in
      let inside : slice_get names c.number ≡ Some x = ap (λ zs. slice_get zs c.number) s.stands.own_is ∙ get_left p.own s.stands.more c.number x here in
      let o = own_cell s.parameters (names_of s.locals) c.number x inside in
      let is : cell_number p.before p.own p.word ≡ base + c.number =
      ap (λ o. own_number (length (cells_of p.before)) p.before p.word o) c.at ∙ ap (λ b. length (cells_of b) + c.number) s.stands.before_is in
      let at : slice_get (cells_of items) (base + c.number) ≡ Some o.cell =
      ap (λ cs. slice_get cs (base + c.number)) (ap cells_of s.is_whole ∙ cells_append s.before (FunctionItem s.name s.gives s.parameters s.locals s.body s.result ∷ s.after))
      ∙ get_right (cells_of s.before) ((map (cell_of Parameter) s.parameters ++ map (cell_of Local) (names_of s.locals)) ++ cells_of s.after) c.number
      ∙ get_left (map (cell_of Parameter) s.parameters ++ map (cell_of Local) (names_of s.locals)) (cells_of s.after) c.number o.cell o.at in
      let f_is : own_cells f ≡ numbers_from base names = ap own_cells (sym (only s.typed)) ∙ own_numbers s.before s.parameters s.locals in
      let near : Contains (own_cells f) (base + c.number) = subst (λ ns. Contains ns (base + c.number)) (sym f_is) (contains_get (numbers_from base names) c.number (base + c.number) (number_at base names c.number x inside)) in
      subst (NamesCell whole f false written) (sym is) (record { cell = o.cell; at = at; near = own near; kind = o.plain; free = λ w. o.no_input })
    where
      only : {g h : Function} → g ∷ [] ≡ h ∷ [] → g ≡ h
      only e = cc

  -- ---- cells

  -- what a role asks of a cell
  record OfCell (role : Role) (indexed written : Bool) : Type 0 where
    word : wrong_for_word role ≡ indexed
    array : wrong_for_array role ≡ not indexed
    function : (thread gives : Bool) (parameters : List Word) → wrong_for_function thread gives parameters role ≡ true
    writes : is_written role ≡ written

  not_written : (p : Place) (x : Found) → Contains (places items) p → found p ≡ x → is_written p.role ≡ true → is_input x ≡ false
  not_written p x h e w = is_false _ (λ input. unbroken _ _ (input_written p h w (ap is_input e ∙ input)))

  cell_means : (p : Place) (i : ℕ) (f : Function) (indexed written : Bool) → Spot p i f → OfCell p.role indexed written → View p → NamesCell whole f indexed written (cell_number p.before p.own p.word)
  unfolding is_wrong
  cell_means p i f indexed written s o (hidden x is c) =
      let plain : indexed ≡ false = sym o.word ∙ right_at p Own s.listed is in
      subst (λ b. NamesCell whole f b written (cell_number p.before p.own p.word)) (sym plain) (own_means p i f x written s c)
  cell_means p i f indexed written s o (known (Scalar kind name start) is calm c) =
      let at = seen p i f (Scalar kind name start) s c in
      let plain : indexed ≡ false = sym o.word ∙ right_at p (Known (Scalar kind name start)) s.listed is in
      let scalar : is_scalar_kind kind ≡ true = scalars (Scalar kind name start) (in_program p (Scalar kind name start) at) in
      record {
        cell = record { name = name.text; kind = kind; size = 1; start = start };
        at = item_cell p (Scalar kind name start) (record { name = name.text; kind = kind; size = 1; start = start }) [] at calm refl;
        near = item (scalar_item kind scalar);
        kind = scalar_plain kind scalar ∙ sym plain;
        free = λ w. not_written p (Known (Scalar kind name start)) s.listed is (o.writes ∙ w);
      }
  cell_means p i f indexed written s o (known (Array name size) is calm c) =
      let at = seen p i f (Array name size) s c in
      let bent : indexed ≡ true = not_false indexed (sym o.array ∙ right_at p (Known (Array name size)) s.listed is) in
      record {
        cell = record { name = name.text; kind = ArrayKind; size = size; start = Rattle.std.specs.Prelude.pos 0 };
        at = item_cell p (Array name size) (record { name = name.text; kind = ArrayKind; size = size; start = Rattle.std.specs.Prelude.pos 0 }) [] at calm refl;
        near = item refl;
        kind = sym bent;
        free = λ w. refl;
      }
  cell_means p i f indexed written s o (known (FunctionItem name gives parameters locals body result) is calm c) =
      let wrong : wrong_for_function (is_thread items name) gives parameters p.role ≡ false = right_at p (Known (FunctionItem name gives parameters locals body result)) s.listed is in
      absurd (cc (wrong, o.function (is_thread items name) gives parameters))
  cell_means p i f indexed written s o (nowhere is) = absurd (unbroken _ _ (unknown p s.listed is))

  -- ---- functions

  record Callee (p : Place) (i : ℕ) : Type 0 where
    name : Word
    gives : Bool
    parameters : List Word
    locals : List (Word × Option (Expr Word))
    body : List (Stmt Word)
    result : Option (Expr Word)
    calm : is_among p.word p.own ≡ false
    is : found p ≡ Known (FunctionItem name gives parameters locals body result)
    named : has_name p.word (FunctionItem name gives parameters locals body result) ≡ true
    function : Function
    typed : typed_item items (until p.word p.before) (FunctionItem name gives parameters locals body result) ≡ function ∷ []
    at : slice_get (typed_from items [] items) (function_number p.before p.word) ≡ Some function
    earlier : function_number p.before p.word < i

  callee : (p : Place) (i : ℕ) (f : Function) (name : Word) (gives : Bool) (parameters : List Word) (locals : List (Word × Option (Expr Word))) (body : List (Stmt Word)) (result : Option (Expr Word)) → Spot p i f →
      found p ≡ Known (FunctionItem name gives parameters locals body result) → is_among p.word p.own ≡ false → Cut (has_name p.word) p.before (FunctionItem name gives parameters locals body result) → Callee p i
  unfolding function_number
  callee p i f name gives parameters locals body result s is calm c =
      let x : Item = FunctionItem name gives parameters locals body result in
      let here : p.before ≡ until p.word p.before ++ x ∷ c.after = c.whole ∙ ap (λ k. take k p.before ++ x ∷ c.after) (sym (ap (λ o. unwrap_or o 0) c.at)) in
      let sum : functions_in s.before ≡ functions_in (until p.word p.before) + functions_in (x ∷ c.after) = ap functions_in (sym s.stands.before_is ∙ here) ∙ functions_append (until p.word p.before) (x ∷ c.after) in
      let at = seen p i f x s c in
      record {
        name = name;
        gives = gives;
        parameters = parameters;
        locals = locals;
        body = body;
        result = result;
        calm = calm;
        is = is;
        named = c.passes;
        function = _;
        typed = refl;
        at = ap (λ zs. slice_get (typed_from items [] zs) (functions_in (until p.word p.before))) at.is_whole ∙ typed_at items [] (until p.word p.before) x at.after _ refl;
        earlier = omega (arith, sum, s.number);
      }

  function_means : (p : Place) (i : ℕ) (f : Function) → Spot p i f → wrong_for_word p.role ≡ true → wrong_for_array p.role ≡ true → View p → Callee p i
  unfolding is_wrong
  function_means p i f s word array (hidden x is c) = absurd (cc (right_at p Own s.listed is, word))
  function_means p i f s word array (known (Scalar kind name start) is calm c) = absurd (cc (right_at p (Known (Scalar kind name start)) s.listed is, word))
  function_means p i f s word array (known (Array name size) is calm c) = absurd (cc (right_at p (Known (Array name size)) s.listed is, array))
  function_means p i f s word array (known (FunctionItem name gives parameters locals body result) is calm c) = callee p i f name gives parameters locals body result s is calm c
  function_means p i f s word array (nowhere is) = absurd (unbroken _ _ (unknown p s.listed is))

  -- a `PAR` that names an item makes it a thread
  thread_starts : (p : Place) (name : Word) → Contains (places items) p → is_start p.role ≡ true → is_among p.word p.own ≡ false → same_text p.word name ≡ true → is_thread items name ≡ true
  unfolding is_thread
  thread_starts p name h start calm same =
      or_right (is_main name) (list_any (starts name) (places items))
      (any_contains (starts name) (places items) p h
      (both_true (is_start p.role) (same_text name p.word && not (is_among p.word p.own)) start
      (both_true (same_text name p.word) (not (is_among p.word p.own)) (bytes_same name p.word (sym (same_bytes p.word name same))) (ap not calm))))

  same_function : {g h : Function} → g ∷ [] ≡ h ∷ [] → g ≡ h
  same_function e = cc

  call_means : (p : Place) (i arguments : ℕ) (taken : Bool) → Contains (places items) p → p.role ≡ Calls arguments taken → Callee p i → NamesRoutine whole i arguments taken (function_number p.before p.word)
  unfolding is_wrong
  call_means p i arguments taken h role c =
      let x : Found = Known (FunctionItem c.name c.gives c.parameters c.locals c.body c.result) in
      let right : (is_thread items c.name || (taken && not c.gives)) ≡ false = ap (λ r. is_wrong items r x) (sym role) ∙ right_at p x h c.is in
      let counted : not (nat_eq arguments (length c.parameters)) ≡ false = is_false _ (λ e. unbroken _ _ (miscounted p h (ap (is_miscounted p.role) c.is ∙ ap (λ r. is_miscounted r x) role ∙ e))) in
      let same : arguments ≡ length c.parameters = eqb-true arguments (length c.parameters) (not_false _ counted) in
      record {
        routine = c.function;
        at = c.at;
        earlier = c.earlier;
        no_thread = ap (λ (g : Function). g.thread) (sym (same_function c.typed)) ∙ or_false_left (is_thread items c.name) (taken && not c.gives) right;
        counted = ap (λ (g : Function). length g.parameters) (sym (same_function c.typed)) ∙ length_numbers (length (cells_of (until p.word p.before))) c.parameters ∙ sym same;
        gives = λ t. ap (λ (g : Function). g.gives) (sym (same_function c.typed)) ∙ implied taken c.gives (or_false_right (is_thread items c.name) (taken && not c.gives) right) t;
      }

  start_means : (p : Place) (i : ℕ) → Contains (places items) p → p.role ≡ Starts → Callee p i → NamesThread whole i (function_number p.before p.word)
  unfolding is_wrong
  start_means p i h role c =
      let x : Found = Known (FunctionItem c.name c.gives c.parameters c.locals c.body c.result) in
      let right : (c.gives || is_some_word c.parameters) ≡ false = ap (λ r. is_wrong items r x) (sym role) ∙ right_at p x h c.is in
      record {
        thread = c.function;
        at = c.at;
        earlier = c.earlier;
        is_thread = ap (λ (g : Function). g.thread) (sym (same_function c.typed)) ∙ thread_starts p c.name h (ap is_start role) c.calm c.named;
        bare = ap (λ (g : Function). g.parameters) (sym (same_function c.typed)) ∙ ap (numbers_from (length (cells_of (until p.word p.before)))) (some_or_none c.parameters (or_false_right c.gives (is_some_word c.parameters) right));
        plain = ap (λ (g : Function). g.gives) (sym (same_function c.typed)) ∙ or_false_left c.gives (is_some_word c.parameters) right;
      }

  -- ---- each name means what its role asks

  place_means : (p : Place) (i : ℕ) (f : Function) (role : Role) → p.role ≡ role → Spot p i f → means whole i f role (number_in (cell_number p.before p.own) (function_number p.before) role p.word)
  place_means p i f Reads e s = cell_means p i f false false s (record { word = ap wrong_for_word e; array = ap wrong_for_array e; function = λ t g ps. ap (wrong_for_function t g ps) e; writes = ap is_written e }) (view p)
  place_means p i f ReadsElement e s = cell_means p i f true false s (record { word = ap wrong_for_word e; array = ap wrong_for_array e; function = λ t g ps. ap (wrong_for_function t g ps) e; writes = ap is_written e }) (view p)
  place_means p i f Writes e s = cell_means p i f false true s (record { word = ap wrong_for_word e; array = ap wrong_for_array e; function = λ t g ps. ap (wrong_for_function t g ps) e; writes = ap is_written e }) (view p)
  place_means p i f WritesElement e s = cell_means p i f true true s (record { word = ap wrong_for_word e; array = ap wrong_for_array e; function = λ t g ps. ap (wrong_for_function t g ps) e; writes = ap is_written e }) (view p)
  place_means p i f (Calls arguments taken) e s = call_means p i arguments taken s.listed e (function_means p i f s (ap wrong_for_word e) (ap wrong_for_array e) (view p))
  place_means p i f Starts e s = start_means p i s.listed e (function_means p i f s (ap wrong_for_word e) (ap wrong_for_array e) (view p))

  spot : (i : ℕ) (before : List Item) (x : Item) (after : List Item) (p : Place) (f : Function) → items ≡ before ++ x ∷ after → typed_item items before x ≡ f ∷ [] → i ≡ functions_in before → Contains (item_places before x) p → Spot p i f
  spot i before (Scalar kind name start) after p f w t n h = absurd (cc)
  spot i before (Array name size) after p f w t n h = absurd (cc)
  spot i before (FunctionItem name gives parameters locals body result) after p f w t n h =
      record {
        before = before;
        name = name;
        gives = gives;
        parameters = parameters;
        locals = locals;
        body = body;
        result = result;
        after = after;
        is_whole = w;
        typed = t;
        number = n;
        listed = subst (λ zs. Contains (Rattle.pc_grammar.specs.Places.places_from [] zs) p) (sym w) (places_inside [] before (FunctionItem name gives parameters locals body result) after p h);
        stands = place_stands before name gives parameters locals body result p h;
      }

  meant : (i : ℕ) (f : Function) → slice_get (typed_from items [] items) i ≡ Some f → (u : Use ℕ) → Contains (function_uses f) u → IsMeant whole i f u
  meant i f at u h =
      let d = declared items [] items i f at in
      let uses : function_uses f ≡ map numbered_place (item_places d.before d.item) = sym (Rattle.std.proofs.Common.append-nil (function_uses f)) ∙ ap (λ fs. Rattle.pc_grammar.specs.Uses.joined (map function_uses fs)) (sym d.is) ∙ item_placed items d.before d.item in
      let g = in_map numbered_place (item_places d.before d.item) u (subst (λ us. Contains us u) uses h) in
      let s = spot i d.before d.item d.after g.of f d.whole d.is d.number g.listed in
      subst (IsMeant whole i f) g.is (place_means g.of i f g.of.role refl s)

  -- ---- `main`

  main_of : (x : Item) → is_main_item x ≡ true → (before : List Item) → (f : Function) × (typed_item items before x ≡ f ∷ []) × (f.thread ≡ true) × (f.parameters ≡ []) × (f.gives ≡ false) × (is_main f.name ≡ true)
  unfolding is_thread
  main_of (Scalar kind name start) e before = absurd (cc)
  main_of (Array name size) e before = absurd (cc)
  main_of (FunctionItem name true parameters locals body result) e before = absurd (cc)
  main_of (FunctionItem name false (w ∷ parameters) locals body result) e before = absurd (cc)
  main_of (FunctionItem name false [] locals body result) e before = (_, refl, or_left (is_main name) (list_any (starts name) (places items)) e, refl, refl, e)

  record Main : Type 0 where
    function : Function
    at : slice_get (typed_from items [] items) whole.main ≡ Some function
    is_thread : function.thread ≡ true
    bare : function.parameters ≡ []
    plain : function.gives ≡ false
    named : is_main function.name ≡ true

  main_function : Main
  main_function =
      let some : list_any is_main_item items ≡ true = not_false _ (is_false _ (λ e. unbroken _ _ (no_main (not_true_of _ e)))) in
      let a = cut_any is_main_item items some in
      let m = main_of a.of a.cut.passes (take a.cut.number items) in
      record {
        function = m.0;
        at = ap (λ o. slice_get (typed_from items [] items) (functions_in (take (unwrap_or o 0) items))) a.cut.at
            ∙ ap (λ zs. slice_get (typed_from items [] zs) (functions_in (take a.cut.number items))) a.cut.whole
            ∙ typed_at items [] (take a.cut.number items) a.of a.cut.after m.0 m.1;
        is_thread = m.2;
        bare = m.3;
        plain = m.4;
        named = m.5;
      }
    where
      not_true_of : (b : Bool) → not b ≡ true → b ≡ false
      not_true_of true e = absurd (cc)
      not_true_of false e = refl

  -- ---- each function stands in one `PAR` at most

  -- a place of a `PAR` with the function that it names
  record Names (p : Place) (n : ℕ) : Type 0 where
    thread : Function
    at : slice_get (typed_from items [] items) n ≡ Some thread
    same : p.word.text ≡ thread.name.text

  names_thread : (p : Place) (n : ℕ) → Contains (places items) p → is_start p.role ≡ true → function_number p.before p.word ≡ n → Names p n
  names_thread p n h start e =
      let d = placed_in [] items p h in
      named d.before d.item d.after d.whole d.placed
    where
      of_role : (role : Role) → is_start role ≡ true → (wrong_for_word role ≡ true) × (wrong_for_array role ≡ true)
      of_role Reads s = absurd (cc)
      of_role ReadsElement s = absurd (cc)
      of_role Writes s = absurd (cc)
      of_role WritesElement s = absurd (cc)
      of_role (Calls arguments taken) s = absurd (cc)
      of_role Starts s = (refl, refl)

      named : (before : List Item) (x : Item) (after : List Item) → items ≡ before ++ x ∷ after → Contains (item_places before x) p → Names p n
      named before (Scalar kind name start) after w inside = absurd (in_none p inside)
      named before (Array name size) after w inside = absurd (in_none p inside)
      named before (FunctionItem name gives parameters locals body result) after w inside =
          let x : Item = FunctionItem name gives parameters locals body result in
          let s = spot (functions_in before) before x after p _ w refl refl inside in
          let c = function_means p (functions_in before) _ s (of_role p.role start).0 (of_role p.role start).1 (view p) in
          record { thread = c.function; at = ap (slice_get (typed_from items [] items)) (sym e) ∙ c.at; same = same_bytes p.word c.name c.named ∙ ap (λ (g : Function). g.name.text) (same_function c.typed) }

  abbrev number_of : Place → ℕ
  number_of p = function_number p.before p.word

  abbrev started_places : List Place
  started_places = filter (λ p. is_start p.role) (places items)

  starts_of : (ps : List Place) → starts_in (map numbered_place ps) ≡ map number_of (filter (λ p. is_start p.role) ps)
  starts_of [] = refl
  starts_of (p ∷ ps) = by_role p.role refl (starts_of ps)
    where
      by_role : (role : Role) → p.role ≡ role → starts_in (map numbered_place ps) ≡ map number_of (filter (λ q. is_start q.role) ps) → starts_in (numbered_place p ∷ map numbered_place ps) ≡ map number_of (filter (λ q. is_start q.role) (p ∷ ps))
      by_role Reads e below = simp e below
      by_role ReadsElement e below = simp e below
      by_role Writes e below = simp e below
      by_role WritesElement e below = simp e below
      by_role (Calls arguments taken) e below = simp e below
      by_role Starts e below = simp e (ap (λ ns. number_of p ∷ ns) below)

  started_is : started whole ≡ map number_of started_places
  started_is = ap starts_in (all_placed items [] items) ∙ starts_of (places items)

  in_places : (p : Place) (front back : List Place) → places items ≡ front ++ p ∷ back → Contains (places items) p
  in_places p front back e = subst (λ ps. Contains ps p) (sym e) (in_right front (p ∷ back) p (in_head p back))

  same_thread : {g h : Function} → Some g ≡ Some h → g ≡ h
  same_thread e = cc

  main_text : (w : Word) → is_main w ≡ true → w.text ≡ codes "main"
  main_text w e = (bytes_eq-Decides w.text (codes "main")).0 e

  text_main : (w : Word) → w.text ≡ codes "main" → is_main w ≡ true
  text_main w e = (bytes_eq-Decides w.text (codes "main")).1 e

  twice : (rest after : List ℕ) (n : ℕ) → Split number_of (λ p. is_start p.role) (places items) rest n → (whole.main ≡ n) ⊎ Contains rest n → ⊥
  twice rest after n s (inl is) =
      let p = s.of in
      let here = names_thread p n (in_places p s.front s.back s.whole) s.passes s.is in
      let m = main_function in
      let same : here.thread ≡ m.function = same_thread (sym here.at ∙ ap (slice_get (typed_from items [] items)) (sym is) ∙ m.at) in
      let main : is_main p.word ≡ true = text_main p.word (here.same ∙ ap (λ (g : Function). g.name.text) same ∙ main_text m.function.name m.named) in
      unbroken _ _ (started_twice s.front s.back p s.whole s.passes (or_left (is_main p.word) (list_any (starts_text p.word) s.front) main))
  twice rest after n s (inr later) =
      let p = s.of in
      let here = names_thread p n (in_places p s.front s.back s.whole) s.passes s.is in
      let g = in_map number_of (filter (λ q. is_start q.role) s.front) n (subst (λ ns. Contains ns n) s.before_is later) in
      let q = g.of in
      let f = in_filter (λ (x : Place). is_start x.role) s.front q g.listed in
      let other = names_thread q n (subst (λ ps. Contains ps q) (sym s.whole) (in_left s.front (p ∷ s.back) q f.0)) f.1 g.is in
      let same : p.word.text ≡ q.word.text = here.same ∙ ap (λ (h : Function). h.name.text) (same_thread (sym here.at ∙ other.at)) ∙ sym other.same in
      let starts : starts_text p.word q ≡ true = both_true (is_start q.role) (same_text p.word q.word) f.1 (bytes_same p.word q.word same) in
      unbroken _ _ (started_twice s.front s.back p s.whole s.passes (or_right (is_main p.word) (list_any (starts_text p.word) s.front) (any_contains (starts_text p.word) s.front q f.0 starts)))

  once : IsOnce (whole.main ∷ started whole)
  once [] after n e h = in_none n h
  once (m ∷ rest) after n e h =
      let first : whole.main ≡ m = cc in
      let behind : started whole ≡ rest ++ n ∷ after = cc in
      let s = split_filter number_of (λ p. is_start p.role) (places items) rest after n (sym started_is ∙ behind) in
      twice rest after n s (⊎_elim (λ is. inl (first ∙ is)) (λ later. inr later) (in_cases m n rest h))

  -- ---- routines hold no pause

  same_pauses : (cell function : Word → ℕ) (body : List (Stmt Word)) → list_any holds_pause (map (numbered_statement cell function) body) ≡ list_any holds_pause body
  same_pauses cell function [] = refl
  same_pauses cell function (s ∷ body) =
      ap (λ b. b || list_any holds_pause (map (numbered_statement cell function) body)) (same_pause cell function s) ∙ ap (λ b. holds_pause s || b) (same_pauses cell function body)

  routine_runs : (before : List Item) (x : Item) (after : List Item) (f : Function) → items ≡ before ++ x ∷ after → typed_item items before x ≡ f ∷ [] → f.thread ≡ false → list_any holds_pause f.body ≡ false
  routine_runs before (Scalar kind name start) after f w t calm = absurd (cc)
  routine_runs before (Array name size) after f w t calm = absurd (cc)
  routine_runs before (FunctionItem name gives parameters locals body result) after f w t calm =
      let x : Item = FunctionItem name gives parameters locals body result in
      let listed : Contains items x = subst (λ zs. Contains zs x) (sym w) (in_right before (x ∷ after) x (in_head x after)) in
      let quiet : is_thread items name ≡ false = ap (λ (g : Function). g.thread) (same_function t) ∙ calm in
      ap (λ (g : Function). list_any holds_pause g.body) (sym (same_function t))
      ∙ same_pauses (cell_number before (parameters ++ names_of locals)) (function_number before) body
      ∙ is_false _ (λ e. unbroken _ _ (no_thread x listed quiet e))

  pub whole_means : MeansWell whole
  whole_means = record {
    main = let m = main_function in record { function = m.function; at = m.at; is_thread = m.is_thread; bare = m.bare; plain = m.plain };
    meant = meant;
    once = once;
    runs = λ i f at calm. let d = declared items [] items i f at in routine_runs d.before d.item d.after f d.whole d.is calm;
  }
