-- Numbers before items.
use Rattle.std.proofs.Common.{◌≡◌, ℕ, zero, suc, ◌+◌, ◌<◌, Bool, true, false, List, [], ◌∷◌, ◌++◌, Option, None, Some, map, length, take, cond, refl, sym, ap, subst, ◌∙◌, arith, length-append}
use Rattle.std.specs.Prelude.{position, slice_get, unwrap_or, nat_lt}
use Rattle.std.specs.List.{position_or_len}
use Rattle.std.specs.Option.{option_map}
use Rattle.std.proofs.lemmas.Bool.Decides.{nat_tests}
use Rattle.std.proofs.lemmas.List.{map-append}
use Rattle.pc_grammar.specs.declared.expressions.Word.{Word}
use Rattle.pc_grammar.specs.declared.programs.Item.{Item}
use Rattle.pc_grammar.specs.declared.programs.Item.TheVariants.{Scalar, Array, Function}
use Rattle.pc_grammar.specs.Places.{word_of, same_text, has_name}
use Rattle.pc_grammar.specs.Typing.{item_cells, cells_of, until, functions_in, own_number, cell_number, function_number}
use Rattle.pc_names.specs.Known.{starts, cells_in, functions_of, IsKnown}
use Rattle.pc_grammar.proofs.Lists.{position-cons}

-- ---- places

position-map : {A B : Type 0} (p : B → Bool) (f : A → B) (xs : List A) → position p (map f xs) ≡ position (λ x. p (f x)) xs
position-map p f [] = refl
position-map p f (x ∷ xs) =
    position-cons p (f x) (map f xs)
    ∙ ap (λ o. cond (p (f x)) (Some 0) (option_map suc o)) (position-map p f xs)
    ∙ sym (position-cons (λ y. p (f y)) x xs)

below : (n l k : ℕ) (b : Bool) → nat_lt n l ≡ b → cond b (Some n) None ≡ Some k → k < l
below n l k true e h = let same : n ≡ k = cc in let less : n < l = grind (arith, nat_tests) in omega (arith, same, less)
below n l k false e h = cc

pub position_within : {A : Type 0} (p : A → Bool) (xs : List A) (k : ℕ) → position p xs ≡ Some k → k < length xs
position_within p xs k h = below (position_or_len p xs) (length xs) k (nat_lt (position_or_len p xs) (length xs)) refl h

-- ---- counts

unfoldable pub total : (Item → ℕ) → List Item → ℕ
total count [] = 0
total count (i ∷ rest) = count i + total count rest

all_cells : (xs : List Item) → length (cells_of xs) ≡ total cells_in xs
unfolding total
all_cells [] = refl
all_cells (i ∷ rest) = length-append (item_cells i) (cells_of rest) ∙ ap (λ n. cells_in i + n) (all_cells rest)

pub one_function : (i : Item) (rest : List Item) → functions_in (i ∷ rest) ≡ functions_of i + functions_in rest
one_function (Scalar kind name start) rest = let e : functions_in rest ≡ 0 + functions_in rest = omega arith in e
one_function (Array name size) rest = let e : functions_in rest ≡ 0 + functions_in rest = omega arith in e
one_function (Function name gives parameters locals body result) rest = let e : 1 + functions_in rest ≡ (1 + 0) + functions_in rest = omega arith in e

all_functions : (xs : List Item) → functions_in xs ≡ total functions_of xs
unfolding total
all_functions [] = refl
all_functions (i ∷ rest) = one_function i rest ∙ ap (λ n. functions_of i + n) (all_functions rest)

module _ (count : Item → ℕ) where
  total-push : (xs : List Item) (i : Item) → total count (xs ++ i ∷ []) ≡ total count xs + count i
  unfolding total
  total-push [] i = omega arith
  total-push (x ∷ xs) i = let e = total-push xs i in omega arith

  starts-push : (n : ℕ) (xs : List Item) (i : Item) → starts count n (xs ++ i ∷ []) ≡ starts count n xs ++ (n + total count xs) ∷ []
  unfolding total
  starts-push n [] i = let e : n ≡ n + 0 = omega arith in ap (λ m. m ∷ []) e
  starts-push n (x ∷ xs) i =
      let e : (n + count x) + total count xs ≡ n + (count x + total count xs) = omega arith in
      ap (λ ms. n ∷ ms) (starts-push (n + count x) xs i ∙ ap (λ m. starts count (n + count x) xs ++ m ∷ []) e)

  start_inside : (n : ℕ) (xs : List Item) (k : ℕ) → k < length xs → slice_get (starts count n xs) k ≡ Some (n + total count (take k xs))
  unfolding total
  start_inside n [] k h = absurd (omega arith)
  start_inside n (x ∷ xs) zero h = let e : n ≡ n + 0 = omega arith in ap (λ m. Some m) e
  start_inside n (x ∷ xs) (suc k) h =
      let e : (n + count x) + total count (take k xs) ≡ n + (count x + total count (take k xs)) = omega arith in
      start_inside (n + count x) xs k (omega arith) ∙ ap (λ m. Some m) e

  start_is : (xs : List Item) (o : Option ℕ) → ((k : ℕ) → o ≡ Some k → k < length xs) → unwrap_or (slice_get (starts count 0 xs) (unwrap_or o 0)) 0 ≡ total count (take (unwrap_or o 0) xs)
  unfolding total
  start_is xs (Some k) h = let e : 0 + total count (take k xs) ≡ total count (take k xs) = omega arith in ap (λ o. unwrap_or o 0) (start_inside 0 xs k (h k refl)) ∙ e
  start_is [] None h = refl
  start_is (x ∷ xs) None h = refl

  pub start_of : (before : List Item) (names : List Word) (counts : List ℕ) (w : Word) → names ≡ map word_of before → counts ≡ starts count 0 before →
      unwrap_or (slice_get counts (unwrap_or (position (same_text w) names) 0)) 0 ≡ total count (until w before)
  start_of before names counts w named are =
      ap (λ ns. unwrap_or (slice_get ns (unwrap_or (position (same_text w) names) 0)) 0) are
      ∙ ap (λ ws. unwrap_or (slice_get (starts count 0 before) (unwrap_or (position (same_text w) ws) 0)) 0) named
      ∙ ap (λ o. unwrap_or (slice_get (starts count 0 before) (unwrap_or o 0)) 0) (position-map (same_text w) word_of before)
      ∙ start_is before (position (has_name w) before) (position_within (has_name w) before)

pub item_cell_is : (before : List Item) (names : List Word) (counts : List ℕ) (w : Word) → names ≡ map word_of before → counts ≡ starts cells_in 0 before →
    unwrap_or (slice_get counts (unwrap_or (position (same_text w) names) 0)) 0 ≡ length (cells_of (until w before))
item_cell_is before names counts w named are = start_of cells_in before names counts w named are ∙ sym (all_cells (until w before))

pub function_is : (before : List Item) (names : List Word) (counts : List ℕ) (w : Word) → names ≡ map word_of before → counts ≡ starts functions_of 0 before →
    unwrap_or (slice_get counts (unwrap_or (position (same_text w) names) 0)) 0 ≡ function_number before w
unfolding function_number
function_is before names counts w named are = start_of functions_of before names counts w named are ∙ sym (all_functions (until w before))

pub own_cell : (before : List Item) (own : List Word) (w : Word) (k : ℕ) → position (same_text w) own ≡ Some k → length (cells_of before) + k ≡ cell_number before own w
unfolding cell_number
own_cell before own w k e = ap (own_number (length (cells_of before)) before w) (sym e)

pub other_cell : (before : List Item) (own : List Word) (w : Word) → position (same_text w) own ≡ None → length (cells_of (until w before)) ≡ cell_number before own w
unfolding cell_number
other_cell before own w e = ap (own_number (length (cells_of before)) before w) (sym e)

-- one more item
pub known_with : (before grown : List Item) (i : Item) (names new_names : List Word) (cells new_cells functions new_functions : List ℕ) (cell_count new_cell_count function_count new_function_count : ℕ) →
    IsKnown before names cells functions cell_count function_count → grown ≡ before ++ i ∷ [] → new_names ≡ names ++ word_of i ∷ [] → new_cells ≡ cells ++ cell_count ∷ [] → new_functions ≡ functions ++ function_count ∷ [] →
    new_cell_count ≡ cell_count + cells_in i → new_function_count ≡ function_count + functions_of i → IsKnown grown new_names new_cells new_functions new_cell_count new_function_count
known_with before grown i names new_names cells new_cells functions new_functions cell_count new_cell_count function_count new_function_count k is n c f cc_is fc_is =
    let P : List Item → Type 0 = λ items. IsKnown items new_names new_cells new_functions new_cell_count new_function_count in
    let cells_before : cell_count ≡ 0 + total cells_in before = let e = k.all_cells ∙ all_cells before in omega (arith, e) in
    let functions_before : function_count ≡ 0 + total functions_of before = let e = k.all_functions ∙ all_functions before in omega (arith, e) in
    let cells_now : new_cell_count ≡ total cells_in before + cells_in i = omega (arith, cells_before, cc_is) in
    let functions_now : new_function_count ≡ total functions_of before + functions_of i = omega (arith, functions_before, fc_is) in
    subst P (sym is) (record {
      named = n ∙ ap (λ ws. ws ++ word_of i ∷ []) k.named ∙ sym (map-append word_of before (i ∷ []));
      cells_are = c ∙ ap (λ ns. ns ++ cell_count ∷ []) k.cells_are ∙ ap (λ m. starts cells_in 0 before ++ m ∷ []) cells_before ∙ sym (starts-push cells_in 0 before i);
      functions_are = f ∙ ap (λ ns. ns ++ function_count ∷ []) k.functions_are ∙ ap (λ m. starts functions_of 0 before ++ m ∷ []) functions_before ∙ sym (starts-push functions_of 0 before i);
      all_cells = cells_now ∙ sym (total-push cells_in before i) ∙ sym (all_cells (before ++ i ∷ []));
      all_functions = functions_now ∙ sym (total-push functions_of before i) ∙ sym (all_functions (before ++ i ∷ []));
    })
