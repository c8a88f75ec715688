-- The innermost fired entry.
use Rattle.std.proofs.Common.{◌≡◌, ℕ, ◌+◌, ◌-◌, ◌<◌, ◌≤◌, Bool, true, false, if◌then◌else◌, List, [], ◌∷◌, ◌++◌, length, take, get_or, slice_index_or, Option, Some, refl, ap, ◌∙◌, arith}
use Rattle.std.proofs.lemmas.List.{take_more}
use Rattle.mb_pfu.specs.declared.parts.Watch.{Watch}
use Rattle.mb_pfu.specs.Rows.{relief, relief_with}

relief_with-if : (y : Watch) (b : Bool) (xs : List Watch) (h : ℕ) (r : Option (List Watch × ℕ)) →
    relief_with y (if b then Some (xs, h) else r) ≡ (if b then Some (y ∷ xs, h) else relief_with y r)
relief_with-if y true xs h r = refl
relief_with-if y false xs h r = refl

relief-last : (xs : List Watch) (x : Watch) → relief (xs ++ x ∷ []) ≡ (if x.entry.fired then Some (xs, x.entry.handler) else relief xs)
relief-last [] x = refl
relief-last (y ∷ xs) x = ap (relief_with y) (relief-last xs x) ∙ relief_with-if y x.entry.fired xs x.entry.handler (relief xs)

-- one entry more at the end
pub relief-take : (xs : List Watch) (i : ℕ) (d : Watch) → 0 < i → i ≤ length xs →
    relief (take i xs) ≡ (if (slice_index_or xs (i - 1) d).entry.fired then Some (take (i - 1) xs, (slice_index_or xs (i - 1) d).entry.handler) else relief (take (i - 1) xs))
relief-take xs i d low high =
    let e : i ≡ (i - 1) + 1 = omega arith in
    ap (λ n. relief (take n xs)) e ∙ ap relief (take_more xs (i - 1) d (omega arith)) ∙ relief-last (take (i - 1) xs) (get_or xs (i - 1) d)

pub relief-fired : (xs : List Watch) (i : ℕ) (d : Watch) → 0 < i → i ≤ length xs → (slice_index_or xs (i - 1) d).entry.fired ≡ true →
    relief (take i xs) ≡ Some (take (i - 1) xs, (slice_index_or xs (i - 1) d).entry.handler)
relief-fired xs i d low high e = rw e at (relief-take xs i d low high)

pub relief-not_fired : (xs : List Watch) (i : ℕ) (d : Watch) → 0 < i → i ≤ length xs → (slice_index_or xs (i - 1) d).entry.fired ≡ false → relief (take i xs) ≡ relief (take (i - 1) xs)
relief-not_fired xs i d low high e = rw e at (relief-take xs i d low high)
