-- A loop that puts the text of each element of a list at the end.
use Rattle.std.proofs.Common.{◌≡◌, ℕ, suc, ◌+◌, ◌<◌, List, ◌∷◌, ◌++◌, length, drop, get_or, sym, ap, ◌∙◌, append_assoc, drop-cons, add-one}

pub walk_step : {A : Type 0} (t : List A → List ℕ) (g : A → List ℕ) → ((x : A) (xs : List A) → t (x ∷ xs) ≡ g x ++ t xs) →
    (l : List A) (i : ℕ) (x : A) (before after all : List ℕ) → i < length l → x ≡ get_or l i x → after ≡ before ++ g x → before ++ t (drop i l) ≡ all → after ++ t (drop (i + 1) l) ≡ all
walk_step {A} t g step l i x before after all within is added so =
    let front : drop i l ≡ x ∷ drop (i + 1) l = drop-cons l i x within ∙ ap (λ (y : A). y ∷ drop (suc i) l) (sym is) ∙ ap (λ (n : ℕ). x ∷ drop n l) (sym (add-one i)) in
    ap (λ y. y ++ t (drop (i + 1) l)) added
    ∙ append_assoc before (g x) (t (drop (i + 1) l))
    ∙ ap (λ y. before ++ y) (sym (step x (drop (i + 1) l)))
    ∙ ap (λ y. before ++ t y) (sym front)
    ∙ so
