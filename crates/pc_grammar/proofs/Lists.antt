-- Places in lists.
use Rattle.std.proofs.Common.{◌≡◌, ℕ, zero, suc, ◌<◌, ◌≤◌, get_or, drop, drop-cons, Bor, ◌+◌, List, [], ◌∷◌, ◌++◌, Bool, true, false, ◌||◌, Option, Some, None, map, length, refl, sym, ap, ◌∙◌, arith, cond}
use Rattle.std.specs.Prelude.{position, is_some, find, nat_lt, not, slice_get, MatchOption}
use Rattle.std.specs.List.{list_any, position_or_len, HoldsAt}
use Rattle.std.specs.Option.{option_map, option_and_then}
use Rattle.std.proofs.lemmas.Option.{slice_get-get_or}
use Rattle.std.proofs.lemmas.Bool.Decides.{nat_tests}

shift : (b : Bool) (n l : ℕ) → cond (nat_lt (cond (not b) (1 + n) 0) (suc l)) (Some (cond (not b) (1 + n) 0)) None ≡ cond b (Some 0) (option_map suc (cond (nat_lt n l) (Some n) None))
shift true n l = let f : nat_lt 0 (suc l) ≡ true = grind (arith, nat_tests) in ap (λ t. cond t (Some 0) None) f
shift false n l = by_test (nat_lt n l) refl
  where
    by_test : (t : Bool) → nat_lt n l ≡ t → cond (nat_lt (1 + n) (suc l)) (Some (1 + n)) None ≡ option_map suc (cond t (Some n) None)
    by_test true e = let f : nat_lt (1 + n) (suc l) ≡ true = grind (arith, nat_tests) in let g : 1 + n ≡ suc n = omega arith in ap (λ t. cond t (Some (1 + n)) None) f ∙ ap (λ k. Some k) g
    by_test false e = let f : nat_lt (1 + n) (suc l) ≡ false = grind (arith, nat_tests) in ap (λ t. cond t (Some (1 + n)) None) f

pub position-cons : {X : Type 0} (p : X → Bool) (x : X) (xs : List X) → position p (x ∷ xs) ≡ cond (p x) (Some 0) (option_map suc (position p xs))
position-cons p x xs = shift (p x) (position_or_len p xs) (length xs)

is_some-suc : (o : Option ℕ) → is_some (option_map suc o) ≡ is_some o
is_some-suc None = refl
is_some-suc (Some n) = refl

pub is_some-position : {X : Type 0} (p : X → Bool) (xs : List X) → is_some (position p xs) ≡ list_any p xs
is_some-position p [] = refl
is_some-position p (x ∷ xs) = ap is_some (position-cons p x xs) ∙ by_head (p x) (is_some-suc (position p xs) ∙ is_some-position p xs)
  where
    by_head : (b : Bool) → is_some (option_map suc (position p xs)) ≡ list_any p xs → is_some (cond b (Some 0) (option_map suc (position p xs))) ≡ (b || list_any p xs)
    by_head true h = refl
    by_head false h = h

-- the place among one more element
abbrev pub pushed : Option ℕ → Bool → ℕ → Option ℕ
pushed (Some k) b n = Some k
pushed None b n = cond b (Some n) None

suc-pushed : (o : Option ℕ) (b : Bool) (n : ℕ) → option_map suc (pushed o b n) ≡ pushed (option_map suc o) b (suc n)
suc-pushed (Some k) b n = refl
suc-pushed None true n = refl
suc-pushed None false n = refl

pub position-push : {X : Type 0} (p : X → Bool) (xs : List X) (y : X) → position p (xs ++ y ∷ []) ≡ pushed (position p xs) (p y) (length xs)
position-push p [] y = position-cons p y [] ∙ by_head (p y)
  where
    by_head : (b : Bool) → cond b (Some 0) None ≡ pushed None b 0
    by_head b = refl
position-push p (x ∷ xs) y = position-cons p x (xs ++ y ∷ []) ∙ by_head (p x) (ap (option_map suc) (position-push p xs y) ∙ suc-pushed (position p xs) (p y) (length xs)) ∙ ap (λ o. pushed o (p y) (suc (length xs))) (sym (position-cons p x xs))
  where
    by_head : (b : Bool) → option_map suc (position p (xs ++ y ∷ [])) ≡ pushed (option_map suc (position p xs)) (p y) (suc (length xs)) → cond b (Some 0) (option_map suc (position p (xs ++ y ∷ []))) ≡ pushed (cond b (Some 0) (option_map suc (position p xs))) (p y) (length (x ∷ xs))
    by_head true h = refl
    by_head false h = h

at_place : {A : Type 0} (o : Option ℕ) (x : A) (xs : List A) → option_and_then (slice_get (x ∷ xs)) (option_map suc o) ≡ option_and_then (slice_get xs) o
at_place None x xs = refl
at_place (Some k) x xs = refl

-- what stands at the place of the first is the first
pub find-position : {A B : Type 0} (p : B → Bool) (f : A → B) (xs : List A) → option_and_then (slice_get xs) (position p (map f xs)) ≡ find (λ x. p (f x)) xs
find-position p f [] = refl
find-position p f (x ∷ xs) = ap (option_and_then (slice_get (x ∷ xs))) (position-cons p (f x) (map f xs)) ∙ by_head (p (f x)) (at_place (position p (map f xs)) x xs ∙ find-position p f xs)
  where
    by_head : (b : Bool) → option_and_then (slice_get (x ∷ xs)) (option_map suc (position p (map f xs))) ≡ find (λ y. p (f y)) xs → option_and_then (slice_get (x ∷ xs)) (cond b (Some 0) (option_map suc (position p (map f xs)))) ≡ cond b (Some x) (find (λ y. p (f y)) xs)
    by_head true h = refl
    by_head false h = h

past : {A : Type 0} (xs : List A) (k : ℕ) → length xs ≤ k → slice_get xs k ≡ None
past [] k h = refl
past (x ∷ xs) zero h = absurd (omega arith)
past (x ∷ xs) (suc k) h = past xs k (omega arith)

-- what `get` answers
pub got : {A : Type 0} (r : Option (Bor A)) (xs : List A) (k : ℕ) → MatchOption r (length xs ≤ k) (λ x. (k < length xs) × HoldsAt (λ y. x.now ≡ y) xs k) → option_map (λ x. x.now) r ≡ slice_get xs k
got None xs k h = sym (past xs k h)
got (Some x) xs k h = let inside : k < length xs = h.0 in let same : x.now ≡ get_or xs k x.now = h.1 x.now in ap Some same ∙ sym (slice_get-get_or xs k x.now inside)

-- the element at a loop's index, and the rest
pub next_at : {A : Type 0} (xs : List A) (i : ℕ) (x : A) → i < length xs → x ≡ get_or xs i x → drop i xs ≡ x ∷ drop (i + 1) xs
next_at xs i x inside is =
    let more : suc i ≡ i + 1 = omega arith in
    drop-cons xs i x inside ∙ ap (λ y. y ∷ drop (suc i) xs) (sym is) ∙ ap (λ n. x ∷ drop n xs) more
