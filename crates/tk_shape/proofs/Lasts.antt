-- The last number of a list, by its place.
use Rattle.std.proofs.Common.{◌≡◌, ℕ, ◌≤◌, ◌-◌, ◌+◌, suc, zero, List, [], ◌∷◌, take, length, slice_index_or, Some, refl, ap, ◌∙◌, sym, arith}
use Rattle.mb_pfu.specs.Calls.{last_of, last_from}

last-plus : (x : ℕ) (l : List ℕ) → last_of (x ∷ l) ≡ Some (take (length l) (x ∷ l), slice_index_or (x ∷ l) (length l) 0)
last-plus x [] = refl
last-plus x (y ∷ l) = ap (λ o. Some (last_from x o)) (last-plus y l)

pub last_taken : (l : List ℕ) → 1 ≤ length l → last_of l ≡ Some (take (length l - 1) l, slice_index_or l (length l - 1) 0)
last_taken [] h = absurd (omega (arith, h))
last_taken (x ∷ l) h =
    let e : length l ≡ length (x ∷ l) - 1 = omega arith in
    last-plus x l ∙ ap (λ n. Some (take n (x ∷ l), slice_index_or (x ∷ l) n 0)) e
