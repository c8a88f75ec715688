-- Marks that come together.
use Rattle.std.proofs.Common.{◌≡◌, ℕ, ◌≤◌, ◌<◌, ◌-◌, ◌+◌, zero, suc, Bool, true, false, ◌||◌, ◌==◌, List, [], ◌∷◌, ◌++◌, flat_map, map, take, length, refl, sym, ap, ◌∙◌, subst, arith, append_assoc}
use Rattle.std.specs.List.{list_any, range_with_len}
use Rattle.tk_shape.specs.Asking.{is_for, any_for}
use Rattle.tk_shape.specs.Marked.{is_marked, IsMore}

or-false : (b : Bool) → (b || false) ≡ b
or-false true = refl
or-false false = refl

or-back : (a b c : Bool) → (a || (b || c)) ≡ ((a || b) || c)
or-back true b c = refl
or-back false b c = refl

any-append : (place : ℕ) (xs ys : List ℕ) → any_for place (xs ++ ys) ≡ (any_for place xs || any_for place ys)
any-append place [] ys = refl
any-append place (x ∷ xs) ys = ap (λ b. (x == place) || b) (any-append place xs ys) ∙ or-back (x == place) (any_for place xs) (any_for place ys)

-- nothing more
pub more_none : (marks : List Bool) → IsMore marks marks []
more_none marks = record { at = λ place within. sym (or-false (is_marked marks place)) }

-- these and then those
pub more_append : (old between new : List Bool) (xs ys : List ℕ) → IsMore old between xs → IsMore between new ys → IsMore old new (xs ++ ys)
more_append old between new xs ys a b = record {
  at = λ place within.
      b.at place within ∙ ap (λ m. m || any_for place ys) (a.at place within)
      ∙ sym (or-back (is_marked old place) (any_for place xs) (any_for place ys)) ∙ ap (λ m. is_marked old place || m) (sym (any-append place xs ys));
}

-- the same by equal lists
pub more_as : (old new : List Bool) (xs ys : List ℕ) → xs ≡ ys → IsMore old new xs → IsMore old new ys
more_as old new xs ys e h = let P : List ℕ → Type 0 = λ l. IsMore old new l in subst P e h

append-nil : (xs : List ℕ) → xs ++ [] ≡ xs
append-nil [] = refl
append-nil (x ∷ xs) = ap (λ l. x ∷ l) (append-nil xs)

flat-append : {X : Type 0} (f : X → List ℕ) (xs ys : List X) → flat_map f (xs ++ ys) ≡ flat_map f xs ++ flat_map f ys
flat-append f [] ys = refl
flat-append f (x ∷ xs) ys = ap (λ l. f x ++ l) (flat-append f xs ys) ∙ sym (append_assoc (f x) (flat_map f xs) (flat_map f ys))

flat-last : {X : Type 0} (f : X → List ℕ) (xs : List X) (x : X) → flat_map f (xs ++ x ∷ []) ≡ flat_map f xs ++ f x
flat-last f xs x = flat-append f xs (x ∷ []) ∙ ap (λ l. flat_map f xs ++ l) (append-nil (f x))

range-last : (from count : ℕ) → range_with_len from (suc count) ≡ range_with_len from count ++ (from + count) ∷ []
range-last from zero = let e : from ≡ from + 0 = omega arith in ap (λ n. n ∷ []) e
range-last from (suc count) =
    let e : from + 1 + count ≡ from + suc count = omega arith in
    ap (λ l. from ∷ l) (range-last (from + 1) count ∙ ap (λ n. range_with_len (from + 1) count ++ n ∷ []) e)

-- one of a range more
pub more_range : (old between new : List Bool) (f : ℕ → List ℕ) (from count : ℕ) → IsMore old between (flat_map f (range_with_len from count)) → IsMore between new (f (from + count))
    → IsMore old new (flat_map f (range_with_len from (count + 1)))
more_range old between new f from count a b =
    let e : suc count ≡ count + 1 = omega arith in
    let whole = more_append old between new (flat_map f (range_with_len from count)) (f (from + count)) a b in
    more_as old new (flat_map f (range_with_len from count) ++ f (from + count)) (flat_map f (range_with_len from (count + 1)))
    (sym (flat-last f (range_with_len from count) (from + count)) ∙ ap (flat_map f) (sym (range-last from count)) ∙ ap (λ n. flat_map f (range_with_len from n)) e) whole

-- one of a range from 0 more
pub more_up : (old between new : List Bool) (f : ℕ → List ℕ) (count : ℕ) → IsMore old between (flat_map f (range_with_len 0 count)) → IsMore between new (f count)
    → IsMore old new (flat_map f (range_with_len 0 (count + 1)))
more_up old between new f count a b =
    let e : count ≡ 0 + count = omega arith in
    more_range old between new f 0 count a (more_as between new (f count) (f (0 + count)) (ap f e) b)
