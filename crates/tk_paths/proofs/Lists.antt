-- What holds of each element of a list holds of the one that is asked for.
use Rattle.std.proofs.Common.{◌≡◌, ◌≤◌, ◌<◌, ◌+◌, ◌⊎◌, ℕ, zero, suc, Bool, true, false, ◌&&◌, if◌then◌else◌, List, [], ◌∷◌, ◌++◌, map, filter, flat_map, slice_index_or, refl, sym, ap, ◌∙◌, subst, inl, inr, ⊎_elim, arith}
use Rattle.std.proofs.lemmas.Bool.{and_parts, or_cases, or_left, or_right, false≢true, cases_eq, cond_both, both_ways}
use Rattle.std.specs.List.{AllByRecursion, list_all, list_any, range_with_len}

-- the list holds the element
abbrev pub IsAmong : {X : Type 0} → X → List X → Type 0
IsAmong x [] = ⊥
IsAmong x (y ∷ ys) = (y ≡ x) ⊎ IsAmong x ys

pub all-left : {X : Type 0} (P : X → Type 0) (xs ys : List X) → AllByRecursion P (xs ++ ys) → AllByRecursion P xs
all-left P [] ys h = tt
all-left P (x ∷ xs) ys h = (h.0, all-left P xs ys (h.1))

pub all-right : {X : Type 0} (P : X → Type 0) (xs ys : List X) → AllByRecursion P (xs ++ ys) → AllByRecursion P ys
all-right P [] ys h = h
all-right P (x ∷ xs) ys h = all-right P xs ys (h.1)

pub all-flat : {X Y : Type 0} (P : Y → Type 0) (f : X → List Y) (xs : List X) (x : X) → AllByRecursion P (flat_map f xs) → IsAmong x xs → AllByRecursion P (f x)
all-flat P f [] x h among = absurd among
all-flat {X} P f (y ∷ ys) x h among =
    ⊎_elim (λ same. let Q : X → Type 0 = λ z. AllByRecursion P (f z) in subst Q same (all-left P (f y) (flat_map f ys) h)) (λ later. all-flat P f ys x (all-right P (f y) (flat_map f ys) h) later) among

pub all-map : {X Y : Type 0} (P : Y → Type 0) (f : X → Y) (xs : List X) (x : X) → AllByRecursion P (map f xs) → IsAmong x xs → P (f x)
all-map P f [] x h among = absurd among
all-map {X} P f (y ∷ ys) x h among =
    ⊎_elim (λ same. let Q : X → Type 0 = λ z. P (f z) in subst Q same (h.0)) (λ later. all-map P f ys x (h.1) later) among

pub among-range : (low count place : ℕ) → low ≤ place → place < low + count → IsAmong place (range_with_len low count)
among-range low zero place above below = absurd (omega arith)
among-range low (suc count) place above below =
    ⊎_elim (λ same. inl same) (λ apart. inr (among-range (low + 1) count place (omega arith) (omega arith))) (cases_eq low place)

pub all-passes : {X : Type 0} (p : X → Bool) (xs : List X) (x : X) → list_all p xs ≡ true → IsAmong x xs → p x ≡ true
all-passes p [] x h among = absurd among
all-passes p (y ∷ ys) x h among =
    ⊎_elim (λ same. ap p (sym same) ∙ (and_parts (p y) (list_all p ys) h).0) (λ later. all-passes p ys x ((and_parts (p y) (list_all p ys) h).1) later) among

pub passes-any : {X : Type 0} (p : X → Bool) (xs : List X) (x : X) → IsAmong x xs → p x ≡ true → list_any p xs ≡ true
passes-any p [] x among h = absurd among
passes-any p (y ∷ ys) x among h =
    ⊎_elim (λ same. or_left (p y) (list_any p ys) (ap p same ∙ h)) (λ later. or_right (p y) (list_any p ys) (passes-any p ys x later h)) among

-- an element that passes
pub record Passing {X : Type 0} (p : X → Bool) (xs : List X) : Type 0 where
  pub which : X
  pub among : IsAmong which xs
  pub passes : p which ≡ true

passing-later : {X : Type 0} (p : X → Bool) (y : X) (ys : List X) → Passing p ys → Passing p (y ∷ ys)
passing-later p y ys w = record { which = w.which; among = inr w.among; passes = w.passes }

pub any-passes : {X : Type 0} (p : X → Bool) (xs : List X) → list_any p xs ≡ true → Passing p xs
any-passes p [] h = absurd (false≢true h)
any-passes p (y ∷ ys) h =
    ⊎_elim (λ here. record { which = y; among = inl refl; passes = here }) (λ later. passing-later p y ys (any-passes p ys later)) (or_cases (p y) (list_any p ys) h)

pub among-filter : {X : Type 0} (p : X → Bool) (xs : List X) (x : X) → IsAmong x xs → p x ≡ true → IsAmong x (filter p xs)
among-filter p [] x among h = absurd among
among-filter {X} p (y ∷ ys) x among h =
    let P : List X → Type 0 = IsAmong x in
    let later : IsAmong x ys → IsAmong x (filter p ys) = λ l. among-filter p ys x l h in
    cond_both (p y) (y ∷ filter p ys) (filter p ys) P
    (λ _. ⊎_elim (λ same. inl same) (λ l. inr (later l)) among)
    (λ fails. ⊎_elim (λ same. absurd (both_ways (p y) fails (ap p same ∙ h))) later among)

pub all-among : {X : Type 0} (P : X → Type 0) (xs : List X) (x : X) → AllByRecursion P xs → IsAmong x xs → P x
all-among P [] x h among = absurd among
all-among P (y ∷ ys) x h among = ⊎_elim (λ same. subst P same (h.0)) (λ later. all-among P ys x (h.1) later) among

-- an element by its index is one of the list, or the other value
pub index-among : {X : Type 0} (P : X → Type 0) (xs : List X) (i : ℕ) (other : X) → AllByRecursion P xs → P other → P (slice_index_or xs i other)
index-among P [] i other h k = k
index-among P (x ∷ xs) zero other h k = h.0
index-among P (x ∷ xs) (suc i) other h k = index-among P xs i other (h.1) k

pub three_parts : (a b c : Bool) → (a && b && c) ≡ true → (a ≡ true) × (b ≡ true) × (c ≡ true)
three_parts a b c h =
    let outer = and_parts (a && b) c h in
    let inner = and_parts a b (outer.0) in
    (inner.0, inner.1, outer.1)

pub by_true : {X : Type 0} (P : X → Type 0) (b : Bool) (x y : X) → b ≡ true → P x → P (if b then x else y)
by_true P true x y h k = k
by_true P false x y h k = absurd (false≢true h)

pub by_false : {X : Type 0} (P : X → Type 0) (b : Bool) (x y : X) → b ≡ false → P y → P (if b then x else y)
by_false P true x y h k = absurd (false≢true (sym h))
by_false P false x y h k = k
