-- Indexes of points and of weights, one entry after another.
use Rattle.std.proofs.Common.{◌≡◌, ℕ, ◌≤◌, ◌<◌, ◌-◌, ◌+◌, zero, suc, Bool, true, false, ◌==◌, List, [], ◌∷◌, ◌++◌, map, take, drop, length, refl, sym, ap, ◌∙◌, subst, arith}
use Rattle.std.proofs.lemmas.Bool.Decides.{nat_tests}
use Rattle.std.specs.Prelude.{slice_get, Option, Some, None, option_map, if◌then◌else◌}
use Rattle.std.specs.Option.{option_to_list}
use Rattle.std.specs.List.{AllByRecursion, IsDistinct, filter}
use Rattle.std.proofs.lemmas.List.Elements.{filter-append}
use Rattle.std.proofs.lemmas.Map.Keys.{IsDistinct-tail, IsDistinct-head}
use Rattle.pt_image.specs.declared.Point.{Point}
use Rattle.pt_image.specs.Ranges.{places_of}
use Rattle.tk_cert.specs.Shapes.{RiseFrom}
use Rattle.tk_paths.specs.Kinds.{points_at}
use Rattle.tk_paths.specs.Shape.{weight_in}
use Rattle.tk_shape.specs.Looking.{found}

-- the first ones and one more
pub take_more : {X : Type 0} (xs : List X) (n : ℕ) (x : X) → slice_get xs n ≡ Some x → take (suc n) xs ≡ take n xs ++ x ∷ []
take_more [] n x h = cc h
take_more (y ∷ xs) zero x h = let e : y ≡ x = cc h in ap (λ z. z ∷ []) e
take_more (y ∷ xs) (suc n) x h = ap (λ l. y ∷ l) (take_more xs n x h)

differs : (x : Point) (points : List Point) (n : ℕ) (p : Point) → AllByRecursion (λ y. (x.at == y) ≡ false) (places_of points) → slice_get points n ≡ Some p → (x.at == p.at) ≡ false
differs x [] n p all h = cc h
differs x (q ∷ points) zero p all h = let e : q ≡ p = cc h in ap (λ (z : Point). x.at == z.at) (sym e) ∙ all.0
differs x (q ∷ points) (suc n) p all h = differs x points n p (all.1) h

skipped : (b : Bool) (x : Point) (rest : List Point) → b ≡ false → rest ≡ [] → (if b then x ∷ rest else rest) ≡ []
skipped true x rest h e = cc h
skipped false x rest h e = e

-- no point before one is for its place
none-before : (points : List Point) (n : ℕ) (p : Point) → IsDistinct (λ m n. m == n) (places_of points) → slice_get points n ≡ Some p → points_at (take n points) p.at ≡ []
none-before [] n p d h = cc h
none-before (x ∷ points) zero p d h = refl
none-before (x ∷ points) (suc n) p d h =
    skipped (x.at == p.at) x (points_at (take n points) p.at) (differs x points n p (IsDistinct-head (λ m n. m == n) x.at (places_of points) d) h)
    (none-before points n p (IsDistinct-tail (λ m n. m == n) x.at (places_of points) d) h)

same-place : (a b : ℕ) → (a == b) ≡ true → a ≡ b
same-place a b h = grind (arith, nat_tests)

append-nil : {X : Type 0} (xs : List X) → xs ++ [] ≡ xs
append-nil [] = refl
append-nil (x ∷ xs) = ap (λ l. x ∷ l) (append-nil xs)

one-more : (points : List Point) (n : ℕ) (p : Point) (place : ℕ) (old new : Option ℕ) (b : Bool) → IsDistinct (λ m n. m == n) (places_of points) → slice_get points n ≡ Some p → (p.at == place) ≡ b
    → new ≡ (if b then Some n else old) → points_at (take n points) place ≡ option_to_list (found points old) → points_at (take n points) place ++ (if b then p ∷ [] else []) ≡ option_to_list (found points new)
one-more points n p place old new true d at here put before =
    let same : p.at ≡ place = same-place p.at place here in
    let none : points_at (take n points) place ≡ [] = ap (points_at (take n points)) (sym same) ∙ none-before points n p d at in
    ap (λ l. l ++ p ∷ []) none ∙ sym (ap option_to_list (ap (found points) put ∙ at))
one-more points n p place old new false d at here put before = append-nil (points_at (take n points) place) ∙ before ∙ sym (ap (λ o. option_to_list (found points o)) put)

-- an index of the first points, and one point more
pub index_more : (points : List Point) (n : ℕ) (p : Point) (place : ℕ) (old new : Option ℕ) → IsDistinct (λ m n. m == n) (places_of points) → slice_get points n ≡ Some p
    → new ≡ (if p.at == place then Some n else old) → points_at (take n points) place ≡ option_to_list (found points old) → points_at (take (n + 1) points) place ≡ option_to_list (found points new)
index_more points n p place old new d at put before =
    let e : n + 1 ≡ suc n = omega arith in
    ap (λ m. points_at (take m points) place) e ∙ ap (λ l. points_at l place) (take_more points n p at) ∙ filter-append (λ (q : Point). q.at == place) (take n points) (p ∷ [])
    ∙ one-more points n p place old new (p.at == place) d at refl put before

-- from a number on, by the one there
drop-here : {X : Type 0} (xs : List X) (n : ℕ) (x : X) → slice_get xs n ≡ Some x → drop n xs ≡ x ∷ drop (suc n) xs
drop-here [] n x h = cc h
drop-here (y ∷ xs) zero x h = let e : y ≡ x = cc h in ap (λ z. z ∷ xs) e
drop-here (y ∷ xs) (suc n) x h = drop-here xs n x h

weight-more : (weights : List (ℕ × ℕ)) (n : ℕ) (w : ℕ × ℕ) (rest : Option ℕ) (old new : Option ℕ) (b : Bool) → slice_get weights n ≡ Some w → new ≡ (if b then Some n else old)
    → rest ≡ option_map (λ (v : ℕ × ℕ). v.1) (found weights old) → (if b then Some (w.1) else rest) ≡ option_map (λ (v : ℕ × ℕ). v.1) (found weights new)
weight-more weights n w rest old new true at put before = sym (ap (λ o. option_map (λ (v : ℕ × ℕ). v.1) o) (ap (found weights) put ∙ at))
weight-more weights n w rest old new false at put before = before ∙ sym (ap (λ o. option_map (λ (v : ℕ × ℕ). v.1) (found weights o)) put)

-- an index of the last weights, and one weight more before them
pub weigh_more : (weights : List (ℕ × ℕ)) (n : ℕ) (w : ℕ × ℕ) (place : ℕ) (old new : Option ℕ) → slice_get weights n ≡ Some w → new ≡ (if w.0 == place then Some n else old)
    → weight_in (drop (n + 1) weights) place ≡ option_map (λ (v : ℕ × ℕ). v.1) (found weights old) → weight_in (drop n weights) place ≡ option_map (λ (v : ℕ × ℕ). v.1) (found weights new)
weigh_more weights n w place old new at put before =
    let e : suc n ≡ n + 1 = omega arith in
    ap (λ l. weight_in l place) (drop-here weights n w at ∙ ap (λ m. w ∷ drop m weights) e) ∙ weight-more weights n w (weight_in (drop (n + 1) weights) place) old new (w.0 == place) at put before

-- a place that rises is no less than its number
pub rise_number : (low : ℕ) (weights : List (ℕ × ℕ)) (n : ℕ) (w : ℕ × ℕ) → RiseFrom low weights → slice_get weights n ≡ Some w → low + n ≤ w.0
rise_number low [] n w h at = cc at
rise_number low (v ∷ weights) zero w h at = let e : v ≡ w = cc at in let f : v.0 ≡ w.0 = ap (λ (x : ℕ × ℕ). x.0) e in omega (arith, f, h.0)
rise_number low (v ∷ weights) (suc n) w h at = let r : v.0 + 1 + n ≤ w.0 = rise_number (v.0 + 1) weights n w (h.1) at in omega (arith, r, h.0)
