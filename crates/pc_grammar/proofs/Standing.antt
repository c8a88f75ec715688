-- Where the functions, the cells and the places of a program stand.
use Rattle.std.proofs.Common.{◌≡◌, ℕ, zero, suc, ◌+◌, ◌<◌, Bool, true, false, List, [], ◌∷◌, ◌++◌, ◌⊎◌, inl, inr, ⊎_elim, Option, Some, None, map, length, refl, sym, ap, subst, ◌∙◌, append_assoc, append-nil, length-append, arith}
use Rattle.std.specs.Prelude.{Contains, slice_get}
use Rattle.std.proofs.lemmas.List.{map-append}
use Rattle.pt_base.proofs.Elements.{in_none, in_left, in_right, in_either}
use Rattle.pc_grammar.specs.declared.expressions.Word.{Word}
use Rattle.pc_grammar.specs.declared.expressions.Expr.{Expr}
use Rattle.pc_grammar.specs.declared.statements.Stmt.{Stmt}
use Rattle.pc_grammar.specs.declared.programs.Item.{Item}
use Rattle.pc_grammar.specs.declared.programs.Item.TheVariants.{Scalar, Array, Function as FunctionItem}
use Rattle.pc_grammar.specs.declared.typed.Function.{Function}
use Rattle.pc_grammar.specs.Uses.{Use, use_of, joined, value_uses, statements_uses}
use Rattle.pc_grammar.specs.Places.{Place, place_of, names_of, locals_places, item_places, places_from}
use Rattle.pc_grammar.specs.Typing.{item_cells, cells_of, cell_number, functions_in, function_number, numbered_value, numbered_statement, typed_locals, typed_item, typed_from}
use Rattle.pc_grammar.specs.Meant.{function_uses}
use Rattle.pc_grammar.proofs.Renaming.{numbered_use, same_value, same_statements}
use Rattle.pc_grammar.proofs.FirstPassing.{Given, in_map}

-- ---- cells and functions, one part of the program after another

pub cells_append : (xs ys : List Item) → cells_of (xs ++ ys) ≡ cells_of xs ++ cells_of ys
cells_append [] ys = refl
cells_append (x ∷ xs) ys = ap (λ cs. item_cells x ++ cs) (cells_append xs ys) ∙ sym (append_assoc (item_cells x) (cells_of xs) (cells_of ys))

pub functions_append : (xs ys : List Item) → functions_in (xs ++ ys) ≡ functions_in xs + functions_in ys
functions_append [] ys = let e : functions_in ys ≡ 0 + functions_in ys = omega arith in e
functions_append (Scalar kind name start ∷ xs) ys = functions_append xs ys
functions_append (Array name size ∷ xs) ys = functions_append xs ys
functions_append (FunctionItem name gives parameters locals body result ∷ xs) ys =
    let e = functions_append xs ys in
    let sum : 1 + functions_in (xs ++ ys) ≡ (1 + functions_in xs) + functions_in ys = omega arith in sum

-- ---- functions by number

-- the item of a function, and those before it
pub record Declared (all pre items : List Item) (i : ℕ) (f : Function) : Type 0 where
  pub before : List Item
  pub item : Item
  pub after : List Item
  pub whole : items ≡ before ++ item ∷ after
  pub is : typed_item all (pre ++ before) item ≡ f ∷ []
  pub number : i ≡ functions_in before

module _ (all : List Item) where
  later : (pre items : List Item) (x : Item) (i j : ℕ) (f : Function) → j ≡ functions_in (x ∷ []) + i → Declared all (pre ++ x ∷ []) items i f → Declared all pre (x ∷ items) j f
  later pre items x i j f add d = record {
    before = x ∷ d.before;
    item = d.item;
    after = d.after;
    whole = ap (λ zs. x ∷ zs) d.whole;
    is = ap (λ ys. typed_item all ys d.item) (sym (append_assoc pre (x ∷ []) d.before)) ∙ d.is;
    number = add ∙ ap (λ n. functions_in (x ∷ []) + n) d.number ∙ sym (functions_append (x ∷ []) d.before);
  }

  pub declared : (pre items : List Item) (i : ℕ) (f : Function) → slice_get (typed_from all pre items) i ≡ Some f → Declared all pre items i f
  declared pre [] i f h = absurd (cc)
  declared pre (Scalar kind name start ∷ items) i f h = let e : i ≡ 0 + i = omega arith in later pre items (Scalar kind name start) i i f e (declared (pre ++ Scalar kind name start ∷ []) items i f h)
  declared pre (Array name size ∷ items) i f h = let e : i ≡ 0 + i = omega arith in later pre items (Array name size) i i f e (declared (pre ++ Array name size ∷ []) items i f h)
  declared pre (FunctionItem name gives parameters locals body result ∷ items) zero f h =
      let item : Item = FunctionItem name gives parameters locals body result in
      record { before = []; item = item; after = items; whole = refl; is = ap (λ ys. typed_item all ys item) (append-nil pre) ∙ cc; number = refl }
  declared pre (FunctionItem name gives parameters locals body result ∷ items) (suc i) f h =
      let item : Item = FunctionItem name gives parameters locals body result in
      let e : suc i ≡ 1 + 0 + i = omega arith in
      later pre items item i (suc i) f e (declared (pre ++ item ∷ []) items i f h)

  pub typed_at : (pre before : List Item) (item : Item) (after : List Item) (f : Function) → typed_item all (pre ++ before) item ≡ f ∷ [] → slice_get (typed_from all pre (before ++ item ∷ after)) (functions_in before) ≡ Some f
  typed_at pre [] item after f is =
      ap (λ fs. slice_get (fs ++ typed_from all (pre ++ item ∷ []) after) 0) (ap (λ ys. typed_item all ys item) (sym (append-nil pre)) ∙ is)
  typed_at pre (Scalar kind name start ∷ before) item after f is =
      typed_at (pre ++ Scalar kind name start ∷ []) before item after f (ap (λ ys. typed_item all ys item) (append_assoc pre (Scalar kind name start ∷ []) before) ∙ is)
  typed_at pre (Array name size ∷ before) item after f is =
      typed_at (pre ++ Array name size ∷ []) before item after f (ap (λ ys. typed_item all ys item) (append_assoc pre (Array name size ∷ []) before) ∙ is)
  typed_at pre (FunctionItem name gives parameters locals body result ∷ before) item after f is =
      let x : Item = FunctionItem name gives parameters locals body result in
      let e : 1 + functions_in before ≡ suc (functions_in before) = omega arith in
      ap (slice_get (typed_from all pre (x ∷ before ++ item ∷ after))) e
      ∙ typed_at (pre ++ x ∷ []) before item after f (ap (λ ys. typed_item all ys item) (append_assoc pre (x ∷ []) before) ∙ is)

-- ---- places

pub record Stands (before : List Item) (own : List Word) (p : Place) : Type 0 where
  pub before_is : p.before ≡ before
  pub more : List Word
  pub own_is : own ≡ p.own ++ more

uses_stand : (before : List Item) (own : List Word) (uses : List (Use Word)) (p : Place) → Contains (map (place_of before own) uses) p → Stands before own p
uses_stand before own uses p h =
    let g = in_map (place_of before own) uses p h in
    record { before_is = ap (λ (q : Place). q.before) (sym g.is); more = []; own_is = ap (λ (q : Place). q.own) g.is ∙ sym (append-nil p.own) }

locals_stand : (before : List Item) (own : List Word) (locals : List (Word × Option (Expr Word))) (p : Place) → Contains (locals_places before own locals) p → Stands before (own ++ names_of locals) p
locals_stand before own [] p h = absurd (in_none p h)
locals_stand before own (l ∷ locals) p h =
    ⊎_elim
    (λ first. let s = uses_stand before own (value_uses l.1) p first in
    record { before_is = s.before_is; more = s.more ++ names_of (l ∷ locals); own_is = ap (λ ws. ws ++ names_of (l ∷ locals)) s.own_is ∙ append_assoc p.own s.more (names_of (l ∷ locals)) })
    (λ rest. let s = locals_stand before (own ++ l.0 ∷ []) locals p rest in
    record { before_is = s.before_is; more = s.more; own_is = sym (append_assoc own (l.0 ∷ []) (names_of locals)) ∙ s.own_is })
    (in_either (map (place_of before own) (value_uses l.1)) (locals_places before (own ++ l.0 ∷ []) locals) p h)

pub place_stands : (before : List Item) (name : Word) (gives : Bool) (parameters : List Word) (locals : List (Word × Option (Expr Word))) (body : List (Stmt Word)) (result : Option (Expr Word)) (p : Place) →
    Contains (item_places before (FunctionItem name gives parameters locals body result)) p → Stands before (parameters ++ names_of locals) p
place_stands before name gives parameters locals body result p h =
    ⊎_elim
    (λ inside. locals_stand before parameters locals p inside)
    (λ rest. uses_stand before (parameters ++ names_of locals) (statements_uses body ++ value_uses result) p rest)
    (in_either (locals_places before parameters locals) (map (place_of before (parameters ++ names_of locals)) (statements_uses body ++ value_uses result)) p h)

-- a place of an item is one of the program, and each place is one of an item
pub places_inside : (pre before : List Item) (item : Item) (after : List Item) (p : Place) → Contains (item_places (pre ++ before) item) p → Contains (places_from pre (before ++ item ∷ after)) p
places_inside pre [] item after p h = in_left (item_places pre item) (places_from (pre ++ item ∷ []) after) p (subst (λ ys. Contains (item_places ys item) p) (append-nil pre) h)
places_inside pre (x ∷ before) item after p h =
    in_right (item_places pre x) (places_from (pre ++ x ∷ []) (before ++ item ∷ after)) p
    (places_inside (pre ++ x ∷ []) before item after p (subst (λ ys. Contains (item_places ys item) p) (sym (append_assoc pre (x ∷ []) before)) h))

pub record PlacedIn (pre items : List Item) (p : Place) : Type 0 where
  pub before : List Item
  pub item : Item
  pub after : List Item
  pub whole : items ≡ before ++ item ∷ after
  pub placed : Contains (item_places (pre ++ before) item) p

pub placed_in : (pre items : List Item) (p : Place) → Contains (places_from pre items) p → PlacedIn pre items p
placed_in pre [] p h = absurd (in_none p h)
placed_in pre (x ∷ items) p h =
    ⊎_elim
    (λ first. record { before = []; item = x; after = items; whole = refl; placed = subst (λ ys. Contains (item_places ys x) p) (sym (append-nil pre)) first })
    (λ rest. let d = placed_in (pre ++ x ∷ []) items p rest in
    record { before = x ∷ d.before; item = d.item; after = d.after; whole = ap (λ zs. x ∷ zs) d.whole; placed = subst (λ ys. Contains (item_places ys d.item) p) (append_assoc pre (x ∷ []) d.before) d.placed })
    (in_either (item_places pre x) (places_from (pre ++ x ∷ []) items) p h)

-- ---- what a function names are the names at its places, each with its number

abbrev pub numbered_place : Place → Use ℕ
numbered_place p = numbered_use (cell_number p.before p.own) (function_number p.before) (use_of p.role p.word)

placed : (before : List Item) (own : List Word) (uses : List (Use Word)) → map (numbered_use (cell_number before own) (function_number before)) uses ≡ map numbered_place (map (place_of before own) uses)
placed before own [] = refl
placed before own (u ∷ uses) = ap (λ us. numbered_use (cell_number before own) (function_number before) u ∷ us) (placed before own uses)

locals_placed : (before : List Item) (own : List Word) (locals : List (Word × Option (Expr Word))) → joined (map (λ p. value_uses p.1) (typed_locals before own locals)) ≡ map numbered_place (locals_places before own locals)
locals_placed before own [] = refl
locals_placed before own (l ∷ locals) =
    ap (λ us. us ++ joined (map (λ p. value_uses p.1) (typed_locals before (own ++ l.0 ∷ []) locals))) (same_value (cell_number before own) (function_number before) l.1 ∙ placed before own (value_uses l.1))
    ∙ ap (λ us. map numbered_place (map (place_of before own) (value_uses l.1)) ++ us) (locals_placed before (own ++ l.0 ∷ []) locals)
    ∙ sym (map-append numbered_place (map (place_of before own) (value_uses l.1)) (locals_places before (own ++ l.0 ∷ []) locals))

body_placed : (before : List Item) (own : List Word) (body : List (Stmt Word)) (result : Option (Expr Word)) →
    statements_uses (map (numbered_statement (cell_number before own) (function_number before)) body) ++ value_uses (numbered_value (cell_number before own) result) ≡ map numbered_place (map (place_of before own) (statements_uses body ++ value_uses result))
body_placed before own body result =
    let cell = cell_number before own in
    let function = function_number before in
    ap (λ us. us ++ value_uses (numbered_value cell result)) (same_statements cell function body)
    ∙ ap (λ us. map (numbered_use cell function) (statements_uses body) ++ us) (same_value cell function result)
    ∙ sym (map-append (numbered_use cell function) (statements_uses body) (value_uses result))
    ∙ placed before own (statements_uses body ++ value_uses result)

-- of each function of an item
pub item_placed : (all before : List Item) (item : Item) → joined (map function_uses (typed_item all before item)) ≡ map numbered_place (item_places before item)
item_placed all before (Scalar kind name start) = refl
item_placed all before (Array name size) = refl
item_placed all before (FunctionItem name gives parameters locals body result) =
    let own : List Word = parameters ++ names_of locals in
    let rest = map (place_of before own) (statements_uses body ++ value_uses result) in
    append-nil (joined (map (λ p. value_uses p.1) (typed_locals before parameters locals)) ++ (statements_uses (map (numbered_statement (cell_number before own) (function_number before)) body) ++ value_uses (numbered_value (cell_number before own) result)))
    ∙ ap (λ us. us ++ (statements_uses (map (numbered_statement (cell_number before own) (function_number before)) body) ++ value_uses (numbered_value (cell_number before own) result))) (locals_placed before parameters locals)
    ∙ ap (λ us. map numbered_place (locals_places before parameters locals) ++ us) (body_placed before own body result)
    ∙ sym (map-append numbered_place (locals_places before parameters locals) rest)

joined_append : {A : Type 0} (xs ys : List (List A)) → joined (xs ++ ys) ≡ joined xs ++ joined ys
joined_append [] ys = refl
joined_append (x ∷ xs) ys = ap (λ z. x ++ z) (joined_append xs ys) ∙ sym (append_assoc x (joined xs) (joined ys))

pub all_placed : (all pre items : List Item) → joined (map function_uses (typed_from all pre items)) ≡ map numbered_place (places_from pre items)
all_placed all pre [] = refl
all_placed all pre (x ∷ items) =
    ap joined (map-append function_uses (typed_item all pre x) (typed_from all (pre ++ x ∷ []) items))
    ∙ joined_append (map function_uses (typed_item all pre x)) (map function_uses (typed_from all (pre ++ x ∷ []) items))
    ∙ ap (λ us. us ++ joined (map function_uses (typed_from all (pre ++ x ∷ []) items))) (item_placed all pre x)
    ∙ ap (λ us. map numbered_place (item_places pre x) ++ us) (all_placed all (pre ++ x ∷ []) items)
    ∙ sym (map-append numbered_place (item_places pre x) (places_from (pre ++ x ∷ []) items))
