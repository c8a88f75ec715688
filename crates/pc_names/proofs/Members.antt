-- Where members of lists stand.
use Rattle.std.proofs.Common.{◌≡◌, List, [], ◌∷◌, ◌++◌, ⊎_elim, sym, ap, subst}
use Rattle.std.specs.Prelude.{Contains}
use Rattle.pt_base.proofs.Elements.{in_head, in_right, in_cases, in_none}

pub record Split {A : Type 0} (xs : List A) (y : A) : Type 0 where
  pub before : List A
  pub after : List A
  pub is : xs ≡ before ++ y ∷ after

behind : {A : Type 0} (x y : A) (xs : List A) → Split xs y → Split (x ∷ xs) y
behind x y xs s = record { before = x ∷ s.before; after = s.after; is = ap (λ ys. x ∷ ys) s.is }

pub split_at : {A : Type 0} (y : A) (xs : List A) → Contains xs y → Split xs y
split_at y [] h = absurd (in_none y h)
split_at y (x ∷ xs) h =
    ⊎_elim
    (λ is. record { before = []; after = xs; is = ap (λ z. z ∷ xs) is })
    (λ later. behind x y xs (split_at y xs later))
    (in_cases x y xs h)

pub in_split : {A : Type 0} (y : A) (xs before after : List A) → xs ≡ before ++ y ∷ after → Contains xs y
in_split y xs before after is = subst (λ ys. Contains ys y) (sym is) (in_right before (y ∷ after) y (in_head y after))
