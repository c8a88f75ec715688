-- The greatest of what the points of a slot give, one point after another.
use Rattle.std.proofs.Common.{◌≡◌, ℕ, ◌<◌, ◌+◌, ◌≤◌, ◌==◌, zero, suc, nat_le, Bool, true, false, if◌then◌else◌, List, [], ◌∷◌, drop, length, get_or, Option, Some, None, refl, sym, ap, ◌∙◌, arith}
use Rattle.std.proofs.Math.Seq.{drop-cons}
use Rattle.std.proofs.lemmas.Bool.Decides.{nat_tests}
use Rattle.std.specs.List.{AllByRecursion}
use Rattle.pt_image.specs.declared.Point.{Point}
use Rattle.pt_image.specs.declared.Parts.{Parts}
use Rattle.pt_image.specs.Ranges.{IsPoint}
use Rattle.tk_paths.specs.Sums.{greater}
use Rattle.tk_paths.specs.Greatest.{best}

pub greater_none : (a : Option ℕ) → greater a None ≡ a
greater_none None = refl
greater_none (Some x) = refl

max-assoc : (x y z : ℕ) → (if nat_le (if nat_le x y then y else x) z then z else (if nat_le x y then y else x)) ≡ (if nat_le x (if nat_le y z then z else y) then (if nat_le y z then z else y) else x)
max-assoc x y z = grind (arith, nat_tests)

pub greater_assoc : (a b c : Option ℕ) → greater (greater a b) c ≡ greater a (greater b c)
greater_assoc None b c = refl
greater_assoc (Some x) None c = refl
greater_assoc (Some x) (Some y) None = refl
greater_assoc (Some x) (Some y) (Some z) = ap Some (max-assoc x y z)

-- a point of the slot, and one of another
here : (given : Point → Option ℕ) (s : ℕ) (points : List Point) (i : ℕ) (d : Point) → i < length points →
    best given s (drop i points)
    ≡ (if (get_or points i d).slot == s then greater (given (get_or points i d)) (best given s (drop (i + 1) points)) else best given s (drop (i + 1) points))
here given s points i d h =
    let e : suc i ≡ i + 1 = omega arith in
    ap (best given s) (drop-cons points i d h ∙ ap (λ n. get_or points i d ∷ drop n points) e)

pub best_here : (given : Point → Option ℕ) (s : ℕ) (points : List Point) (i : ℕ) (d : Point) (most : Option ℕ) → i < length points →
    ((get_or points i d).slot == s) ≡ true →
    greater (greater most (given (get_or points i d))) (best given s (drop (i + 1) points)) ≡ greater most (best given s (drop i points))
best_here given s points i d most h e =
    greater_assoc most (given (get_or points i d)) (best given s (drop (i + 1) points))
    ∙ sym (ap (greater most) (here given s points i d h ∙ ap (λ b. if b then greater (given (get_or points i d)) (best given s (drop (i + 1) points)) else best given s (drop (i + 1) points)) e))

pub best_past : (given : Point → Option ℕ) (s : ℕ) (points : List Point) (i : ℕ) (d : Point) → i < length points →
    ((get_or points i d).slot == s) ≡ false → best given s (drop i points) ≡ best given s (drop (i + 1) points)
best_past given s points i d h e =
    here given s points i d h ∙ ap (λ b. if b then greater (given (get_or points i d)) (best given s (drop (i + 1) points)) else best given s (drop (i + 1) points)) e

-- at most eight aborts are round a point
pub few_at : (image : Parts) (points : List Point) (i : ℕ) (d : Point) → AllByRecursion (IsPoint image) points → i < length points → length ((get_or points i d).stack) ≤ 8
few_at image [] i d a h = absurd (omega (arith, h))
few_at image (p ∷ points) zero d a h = a.0.2
few_at image (p ∷ points) (suc i) d a h = few_at image points i d (a.1) (omega (arith, h))
