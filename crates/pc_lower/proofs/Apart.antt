-- The words of two cells don't meet, and an argument of a call names no parameter of the function that is called.
use Rattle.std.proofs.Common.{◌≡◌, ℕ, zero, suc, ◌+◌, ◌<◌, ◌≤◌, Bool, true, false, ◌⊎◌, inl, inr, ⊎_elim, List, [], ◌∷◌, ◌++◌, map, length, Option, Some, refl, sym, ap, subst, ◌∙◌, length-append, arith}
use Rattle.std.specs.Prelude.{Contains, slice_get, nat_eq}
use Rattle.std.proofs.lemmas.Bool.{eqb-true}
use Rattle.std.proofs.lemmas.List.{length-map}
use Rattle.pt_base.proofs.Elements.{in_head, in_tail, in_cases, in_none, in_left, in_right, in_either}
use Rattle.pt_base.specs.declared.operators.BinOp.{BinOp}
use Rattle.pc_grammar.specs.declared.expressions.Word.{Word}
use Rattle.pc_grammar.specs.declared.expressions.Expr.{Expr}
use Rattle.pc_grammar.specs.declared.expressions.Expr.TheFolds.{fold-roll-Expr, ind-Expr, map-Expr}
use Rattle.pc_grammar.specs.declared.expressions.Expr.TheViews.{roll-Expr}
use Rattle.pc_grammar.specs.declared.expressions.Expr.TheOpen.{Expr-F, Number, Var, Elem, Unary, Chain}
use Rattle.pc_grammar.specs.declared.programs.CellKind.{CellKind}
use Rattle.pc_grammar.specs.declared.programs.CellKind.TheVariants.{Parameter, Local}
use Rattle.pc_grammar.specs.declared.programs.Item.{Item}
use Rattle.pc_grammar.specs.declared.programs.Item.TheVariants.{Scalar, Array, Function as FunctionItem}
use Rattle.pc_grammar.specs.declared.roles.Role.TheVariants.{Reads, ReadsElement}
use Rattle.pc_grammar.specs.declared.typed.Cell.{Cell}
use Rattle.pc_grammar.specs.declared.typed.Function.{Function}
use Rattle.pc_grammar.specs.Uses.{Use, use_of, operands_uses, expression_step, expression_uses}
use Rattle.pc_grammar.specs.Places.{names_of}
use Rattle.pc_grammar.specs.Typing.{Typing, cell_of, item_cells, cells_of, functions_in, numbers_from, typed_locals, typed_item}
use Rattle.pc_grammar.specs.Meant.{is_item_kind, is_array_kind, own_cells, NamesCell, IsMeant}
use Rattle.pc_grammar.proofs.FirstPassing.{get_left, get_right, in_map}
use Rattle.pc_grammar.proofs.Standing.{cells_append, functions_append}
use Rattle.pc_meaning.specs.declared.places.Room.{Room}
use Rattle.pc_meaning.specs.Tree.{Expression}
use Rattle.pc_meaning.specs.Programs.{rooms_from, rooms_of, room_at, place_of, expression_of}
use Rattle.pc_meaning.specs.Programs as programs
use Rattle.pc_lower.specs.Sound.{Apart, ApartAll}

-- ---- the words of cells

pub room_size : (place : ℕ) (cells : List Cell) (c : ℕ) (k : Cell) → slice_get cells c ≡ Some k → (room_at (rooms_from place cells) c).size ≡ k.size
room_size place [] c k h = absurd (cc)
room_size place (x ∷ cells) zero k h = let e : x ≡ k = cc in ap (λ (k : Cell). k.size) e
room_size place (x ∷ cells) (suc c) k h = room_size (place + x.size) cells c k h

room_from : (place : ℕ) (cells : List Cell) (c : ℕ) (k : Cell) → slice_get cells c ≡ Some k → place ≤ (room_at (rooms_from place cells) c).first
room_from place [] c k h = absurd (cc)
room_from place (x ∷ cells) zero k h = omega arith
room_from place (x ∷ cells) (suc c) k h = let e = room_from (place + x.size) cells c k h in omega (arith, e)

-- an earlier cell's words end where a later one's begin, or before
rooms_rise : (place : ℕ) (cells : List Cell) (c d : ℕ) (k m : Cell) → slice_get cells c ≡ Some k → slice_get cells d ≡ Some m → c < d →
    (room_at (rooms_from place cells) c).first + k.size ≤ (room_at (rooms_from place cells) d).first
rooms_rise place [] c d k m h j less = absurd (cc)
rooms_rise place (x ∷ cells) zero zero k m h j less = absurd (omega arith)
rooms_rise place (x ∷ cells) zero (suc d) k m h j less =
    let e : x ≡ k = cc in
    subst (λ (k : Cell). place + k.size ≤ (room_at (rooms_from (place + x.size) cells) d).first) e (room_from (place + x.size) cells d m j)
rooms_rise place (x ∷ cells) (suc c) zero k m h j less = absurd (omega arith)
rooms_rise place (x ∷ cells) (suc c) (suc d) k m h j less = rooms_rise (place + x.size) cells c d k m h j (omega arith)

not_equal : (a b : ℕ) → (a ≡ b → ⊥) → nat_eq a b ≡ false
not_equal a b h = by (nat_eq a b) refl
  where
    by : (t : Bool) → nat_eq a b ≡ t → nat_eq a b ≡ false
    by true e = absurd (h (eqb-true a b e))
    by false e = e

either_way : (a b : ℕ) → (a ≡ b → ⊥) → (a < b) ⊎ (b < a)
either_way zero zero h = absurd (h refl)
either_way zero (suc b) h = inl (omega arith)
either_way (suc a) zero h = inr (omega arith)
either_way (suc a) (suc b) h = ⊎_elim (λ less. inl (omega arith)) (λ more. inr (omega arith)) (either_way a b (λ e. h (ap suc e)))

-- a word of one cell isn't the word of another that has one
pub words_apart : (cells : List Cell) (c p : ℕ) (k m : Cell) → slice_get cells c ≡ Some k → slice_get cells p ≡ Some m → m.size ≡ 1 → (c ≡ p → ⊥) → (i : ℕ) → i < k.size →
    nat_eq ((room_at (rooms_of cells) c).first + i) (place_of (rooms_of cells) p) ≡ false
words_apart cells c p k m h j one other i inside =
    not_equal _ _ (λ same. ⊎_elim
    (λ less. let e = rooms_rise 0 cells c p k m h j less in absurd (omega (arith, e, same, inside)))
    (λ more. let e = rooms_rise 0 cells p c m k j h more in absurd (omega (arith, e, same, one)))
    (either_way c p other))

-- ---- sizes and kinds

in_cells_size : (ws : List Word) (kind : CellKind) (k : Cell) → Contains (map (cell_of kind) ws) k → k.size ≡ 1
in_cells_size ws kind k h = let g = in_map (cell_of kind) ws k h in ap (λ (k : Cell). k.size) (sym g.is)

item_size : (x : Item) (k : Cell) → Contains (item_cells x) k → is_array_kind k.kind ≡ false → k.size ≡ 1
item_size (Scalar kind name start) k h plain = ⊎_elim (λ is. ap (λ (k : Cell). k.size) (sym is)) (λ none. absurd (in_none k none)) (in_cases _ k [] h)
item_size (Array name size) k h plain =
    ⊎_elim (λ is. let e : true ≡ false = ap (λ (k : Cell). is_array_kind k.kind) is ∙ plain in absurd (cc)) (λ none. absurd (in_none k none)) (in_cases _ k [] h)
item_size (FunctionItem name gives parameters locals body result) k h plain =
    ⊎_elim (in_cells_size parameters Parameter k) (in_cells_size (names_of locals) Local k) (in_either (map (cell_of Parameter) parameters) (map (cell_of Local) (names_of locals)) k h)

-- a cell that is no array has one word
pub plain_size : (items : List Item) (k : Cell) → Contains (cells_of items) k → is_array_kind k.kind ≡ false → k.size ≡ 1
plain_size [] k h plain = absurd (in_none k h)
plain_size (x ∷ items) k h plain = ⊎_elim (λ first. item_size x k first plain) (λ rest. plain_size items k rest plain) (in_either (item_cells x) (cells_of items) k h)

-- ---- the cells of functions, one function after another

pub numbers_low : {A : Type 0} (n : ℕ) (xs : List A) (c : ℕ) → Contains (numbers_from n xs) c → n ≤ c
numbers_low n [] c h = absurd (in_none c h)
numbers_low n (x ∷ xs) c h = ⊎_elim (λ is. omega (arith, is)) (λ rest. let e = numbers_low (n + 1) xs c rest in omega (arith, e)) (in_cases n c (numbers_from (n + 1) xs) h)

locals_low : (before : List Item) (mine : List Word) (locals : List (Word × Option (Expr Word))) (c : ℕ) → Contains (map (λ p. p.0) (typed_locals before mine locals)) c → length (cells_of before) ≤ c
locals_low before mine [] c h = absurd (in_none c h)
locals_low before mine (l ∷ locals) c h =
    ⊎_elim (λ is. let e : length (cells_of before) + length mine ≡ c = is in omega (arith, e)) (λ rest. locals_low before (mine ++ l.0 ∷ []) locals c rest)
    (in_cases _ c (map (λ p. p.0) (typed_locals before (mine ++ l.0 ∷ []) locals)) h)

only : {g h : Function} → g ∷ [] ≡ h ∷ [] → g ≡ h
only e = cc

-- a function's own cells are those that its item declares, or later ones
pub own_low : (all before : List Item) (x : Item) (f : Function) (c : ℕ) → typed_item all before x ≡ f ∷ [] → Contains (own_cells f) c → length (cells_of before) ≤ c
own_low all before (Scalar kind name start) f c t h = absurd (cc)
own_low all before (Array name size) f c t h = absurd (cc)
own_low all before (FunctionItem name gives parameters locals body result) f c t h =
    ⊎_elim (numbers_low (length (cells_of before)) parameters c) (locals_low before parameters locals c)
    (in_either (numbers_from (length (cells_of before)) parameters) (map (λ p. p.0) (typed_locals before parameters locals)) c (subst (λ (g : Function). Contains (own_cells g) c) (sym (only t)) h))

-- the cell of a parameter
pub record ParameterCell (cells : List Cell) (limit p : ℕ) : Type 0 where
  pub cell : Cell
  pub at : slice_get cells p ≡ Some cell
  pub kind : is_item_kind cell.kind ≡ false
  pub one : cell.size ≡ 1
  pub below : p < limit

number_inside : {A : Type 0} (n : ℕ) (xs : List A) (p : ℕ) → Contains (numbers_from n xs) p → (k : ℕ) × (p ≡ n + k) × (k < length xs)
number_inside n [] p h = absurd (in_none p h)
number_inside n (x ∷ xs) p h =
    ⊎_elim (λ is. (0, omega (arith, is), omega arith)) (λ rest. let r = number_inside (n + 1) xs p rest in (suc r.0, omega (arith, r.1), omega (arith, r.2)))
    (in_cases n p (numbers_from (n + 1) xs) h)

pub nth_cell : (kind : CellKind) (ws : List Word) (k : ℕ) → k < length ws → (c : Cell) × (slice_get (map (cell_of kind) ws) k ≡ Some c) × (c.kind ≡ kind) × (c.size ≡ 1)
nth_cell kind [] k less = absurd (omega arith)
nth_cell kind (w ∷ ws) zero less = (cell_of kind w, refl, refl, refl)
nth_cell kind (w ∷ ws) (suc k) less = nth_cell kind ws k (omega arith)

pub parameter_cell : (all items before : List Item) (x : Item) (after : List Item) (f : Function) (p : ℕ) → items ≡ before ++ x ∷ after → typed_item all before x ≡ f ∷ [] → Contains f.parameters p →
    ParameterCell (cells_of items) (length (cells_of before) + length (item_cells x)) p
parameter_cell all items before (Scalar kind name start) after f p whole t h = absurd (cc)
parameter_cell all items before (Array name size) after f p whole t h = absurd (cc)
parameter_cell all items before (FunctionItem name gives parameters locals body result) after f p whole t h =
    let x : Item = FunctionItem name gives parameters locals body result in
    let base : ℕ = length (cells_of before) in
    let r = number_inside base parameters p (subst (λ (g : Function). Contains g.parameters p) (sym (only t)) h) in
    let c = nth_cell Parameter parameters r.0 r.2 in
    let lengths = length-append (map (cell_of Parameter) parameters) (map (cell_of Local) (names_of locals)) in
    let mapped = length-map parameters (cell_of Parameter) in
    record {
      cell = c.0;
      at = ap (slice_get (cells_of items)) r.1 ∙ ap (λ cs. slice_get cs (base + r.0)) (ap cells_of whole ∙ cells_append before (x ∷ after))
          ∙ get_right (cells_of before) (item_cells x ++ cells_of after) r.0
          ∙ get_left (item_cells x) (cells_of after) r.0 c.0 (get_left (map (cell_of Parameter) parameters) (map (cell_of Local) (names_of locals)) r.0 c.0 c.1);
      kind = ap is_item_kind c.2;
      one = c.3;
      below = omega (arith, r.1, r.2, lengths, mapped);
    }

-- the cells of an earlier function come before a later one's
pub functions_rise : (xs ys : List Item) (x y : Item) (us vs : List Item) → xs ++ x ∷ us ≡ ys ++ y ∷ vs → functions_in xs < functions_in ys → length (cells_of xs) + length (item_cells x) ≤ length (cells_of ys)
functions_rise [] [] x y us vs e less = absurd (omega arith)
functions_rise [] (z ∷ ys) x y us vs e less =
    let same : x ≡ z = cc in
    let sum = length-append (item_cells z) (cells_of ys) in
    subst (λ w. 0 + length (item_cells w) ≤ length (item_cells z ++ cells_of ys)) (sym same) (omega (arith, sum))
functions_rise (a ∷ xs) [] x y us vs e less = absurd (omega arith)
functions_rise (a ∷ xs) (z ∷ ys) x y us vs e less =
    let same : a ≡ z = cc in
    let rest : xs ++ x ∷ us ≡ ys ++ y ∷ vs = cc in
    let left = functions_append (a ∷ []) xs in
    let right : functions_in (a ∷ ys) ≡ functions_in (a ∷ []) + functions_in ys = functions_append (a ∷ []) ys in
    let moved : functions_in (a ∷ xs) < functions_in (a ∷ ys) = subst (λ w. functions_in (a ∷ xs) < functions_in (w ∷ ys)) (sym same) less in
    let below = functions_rise xs ys x y us vs rest (omega (arith, left, right, moved)) in
    let sum = length-append (item_cells a) (cells_of xs) in
    let sums = length-append (item_cells a) (cells_of ys) in
    subst (λ w. length (cells_of (a ∷ xs)) + length (item_cells x) ≤ length (cells_of (w ∷ ys))) same (omega (arith, below, sum, sums))

-- ---- an expression of one function names no parameter of another

module _ (t : Typing) (i : ℕ) (f : Function) (p : ℕ) (clear : (c : ℕ) (indexed : Bool) → NamesCell t f indexed false c → (k : ℕ) → k < (room_at (rooms_of t.cells) c).size → nat_eq ((room_at (rooms_of t.cells) c).first + k) (place_of (rooms_of t.cells) p) ≡ false)
    (some : (c : ℕ) → NamesCell t f false false c → 0 < (room_at (rooms_of t.cells) c).size) where
  abbrev rooms : List Room
  rooms = rooms_of t.cells

  abbrev AllMeant : List (Use ℕ) → Type 0
  AllMeant uses = (u : Use ℕ) → Contains uses u → IsMeant t i f u

  abbrev IsApart : Expr ℕ → Type 0
  IsApart e = AllMeant (expression_uses e) → Apart (place_of rooms p) (expression_of rooms e)

  abbrev Known : Type 0
  Known = (e : Expr ℕ) × IsApart e

  operands_apart : (rest : List (BinOp × Known)) → AllMeant (operands_uses (map (λ (q : BinOp × Expr ℕ). (q.0, expression_uses q.1)) (map (λ (q : BinOp × Known). (q.0, q.1.0)) rest))) →
      ApartAll (place_of rooms p) (programs.operands_from (map (λ (q : BinOp × Expr ℕ). (q.0, expression_of rooms q.1)) (map (λ (q : BinOp × Known). (q.0, q.1.0)) rest)))
  operands_apart [] h = tt
  operands_apart (q ∷ rest) h = (q.1.1 (λ u c. h u (in_left _ _ u c)), operands_apart rest (λ u c. h u (in_right (expression_uses q.1.0) _ u c)))

  level_apart : (x : Expr-F ℕ Known) → AllMeant (expression_step (map-Expr ℕ (Expr ℕ) (List (Use ℕ)) (expression_uses {N = ℕ}) (map-Expr ℕ Known (Expr ℕ) (λ e. e.0) x))) →
      Apart (place_of rooms p) (programs.expression_step rooms (map-Expr ℕ (Expr ℕ) Expression (expression_of rooms) (map-Expr ℕ Known (Expr ℕ) (λ e. e.0) x)))
  level_apart (Number n) h = tt
  level_apart (Var c) h =
      let m : NamesCell t f false false c = h (use_of Reads c) (in_head _ []) in
      let e : (room_at rooms c).first + 0 ≡ (room_at rooms c).first = omega arith in
      ap (λ x. nat_eq x (place_of rooms p)) (sym e) ∙ clear c false m 0 (some c m)
  level_apart (Elem c index) h = (clear c true (h (use_of ReadsElement c) (in_head _ (expression_uses index.0))), index.1 (λ u d. h u (in_tail (use_of ReadsElement c) u (expression_uses index.0) d)))
  level_apart (Unary op e) h = e.1 h
  level_apart (Chain first rest) h = (first.1 (λ u c. h u (in_left (expression_uses first.0) _ u c)), operands_apart rest (λ u c. h u (in_right (expression_uses first.0) _ u c)))

  pub expression_apart : (e : Expr ℕ) → IsApart e
  expression_apart = ind-Expr ℕ IsApart (λ x y is.
      subst (λ z. IsApart (roll-Expr ℕ z)) is
      (let below = map-Expr ℕ Known (Expr ℕ) (λ e. e.0) y in
      let uses = fold-roll-Expr ℕ (List (Use ℕ)) (expression_step {N = ℕ}) below in
      λ h. subst (Apart (place_of rooms p)) (sym (fold-roll-Expr ℕ Expression (programs.expression_step rooms) below)) (level_apart y (subst AllMeant uses h))))
