-- What holds of the first of a list that passes a test.
use Rattle.std.proofs.Common.{◌≡◌, Bool, true, false, cond, ◌&&◌, List, [], ◌∷◌, Option, Some, refl, subst}
use Rattle.std.specs.List.{find, list_all}

found_here : {X : Type 0} (p : X → Bool) (x s : X) (later : Option X) (t : Bool) → p x ≡ t → cond t (Some x) later ≡ Some s → (later ≡ Some s → p s ≡ true) → p s ≡ true
found_here p x s later true h here after = let e : x ≡ s = cc in subst (λ y. p y ≡ true) e h
found_here p x s later false h there after = after there

pub found : {X : Type 0} (p : X → Bool) (xs : List X) (s : X) → find p xs ≡ Some s → p s ≡ true
found p [] s eq = cc
found p (x ∷ xs) s eq = found_here p x s (find p xs) (p x) refl eq (found p xs s)

pub both_first : (a b : Bool) → (a && b) ≡ true → a ≡ true
both_first true b h = refl
both_first false b h = h

pub both_second : (a b : Bool) → (a && b) ≡ true → b ≡ true
both_second true b h = h
both_second false b h = cc

among_here : {X : Type 0} (q : X → Bool) (x s : X) (later : Option X) (t : Bool) → q x ≡ true → cond t (Some x) later ≡ Some s → (later ≡ Some s → q s ≡ true) → q s ≡ true
among_here q x s later true h here after = let e : x ≡ s = cc in subst (λ y. q y ≡ true) e h
among_here q x s later false h there after = after there

-- what all of them pass, the first one does
pub found_among : {X : Type 0} (p q : X → Bool) (xs : List X) (s : X) → list_all q xs ≡ true → find p xs ≡ Some s → q s ≡ true
found_among p q [] s all eq = cc
found_among p q (x ∷ xs) s all eq =
    among_here q x s (find p xs) (p x) (both_first (q x) (list_all q xs) all) eq (found_among p q xs s (both_second (q x) (list_all q xs) all))
