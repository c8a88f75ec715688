-- The elements of lists.
use Rattle.std.proofs.Common.{◌≡◌, zero, suc, List, [], ◌∷◌, ◌++◌, ◌⊎◌, inl, inr, ⊎_elim, refl, sym, subst, arith}
use Rattle.std.specs.Prelude.{Contains, flat_map}

pub in_head : {A : Type 0} (x : A) (xs : List A) → Contains (x ∷ xs) x
in_head x xs = (0, omega arith, refl)

pub in_tail : {A : Type 0} (x y : A) (xs : List A) → Contains xs y → Contains (x ∷ xs) y
in_tail x y xs (k, within, is) = (suc k, omega arith, is)

pub in_cases : {A : Type 0} (x y : A) (xs : List A) → Contains (x ∷ xs) y → (x ≡ y) ⊎ Contains xs y
in_cases x y xs (zero, within, is) = inl is
in_cases x y xs (suc k, within, is) = inr (k, omega arith, is)

pub in_none : {A : Type 0} (y : A) → Contains [] y → ⊥
in_none y (k, within, is) = absurd (omega arith)

pub in_left : {A : Type 0} (xs ys : List A) (y : A) → Contains xs y → Contains (xs ++ ys) y
in_left [] ys y h = absurd (in_none y h)
in_left (x ∷ xs) ys y h =
    ⊎_elim
    (λ is. subst (λ z. Contains (x ∷ xs ++ ys) z) is (in_head x (xs ++ ys)))
    (λ later. in_tail x y (xs ++ ys) (in_left xs ys y later))
    (in_cases x y xs h)

pub in_right : {A : Type 0} (xs ys : List A) (y : A) → Contains ys y → Contains (xs ++ ys) y
in_right [] ys y h = h
in_right (x ∷ xs) ys y h = in_tail x y (xs ++ ys) (in_right xs ys y h)

pub in_either : {A : Type 0} (xs ys : List A) (y : A) → Contains (xs ++ ys) y → Contains xs y ⊎ Contains ys y
in_either [] ys y h = inr h
in_either (x ∷ xs) ys y h =
    ⊎_elim
    (λ is. inl (subst (λ z. Contains (x ∷ xs) z) is (in_head x xs)))
    (λ later. ⊎_elim (λ left. inl (in_tail x y xs left)) (λ right. inr right) (in_either xs ys y later))
    (in_cases x y (xs ++ ys) h)

-- an element of one of the lists
pub record Within {A B : Type 0} (f : A → List B) (xs : List A) (y : B) : Type 0 where
  pub of : A
  pub listed : Contains xs of
  pub found : Contains (f of) y

pub in_flat : {A B : Type 0} (f : A → List B) (xs : List A) (y : B) → Contains (flat_map f xs) y → Within f xs y
in_flat f [] y h = absurd (in_none y h)
in_flat f (x ∷ xs) y h =
    ⊎_elim
    (λ first. record { of = x; listed = in_head x xs; found = first })
    (λ later. let w = in_flat f xs y later in record { of = w.of; listed = in_tail x w.of xs w.listed; found = w.found })
    (in_either (f x) (flat_map f xs) y h)

pub flat_in : {A B : Type 0} (f : A → List B) (xs : List A) (x : A) (y : B) → Contains xs x → Contains (f x) y → Contains (flat_map f xs) y
flat_in f [] x y listed found = absurd (in_none x listed)
flat_in f (z ∷ xs) x y listed found =
    ⊎_elim
    (λ is. in_left (f z) (flat_map f xs) y (subst (λ w. Contains (f w) y) (sym is) found))
    (λ later. in_right (f z) (flat_map f xs) y (flat_in f xs x y later found))
    (in_cases z x xs listed)
