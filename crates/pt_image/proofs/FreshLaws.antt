-- Marks for the places that were seen tell whether a place stands twice.
use Rattle.std.proofs.Common.{◌≡◌, ℕ, ◌<◌, Bool, true, false, eqb, List, [], ◌∷◌, length, get_or, set, refl, sym, subst, ◌∙◌, inl, inr, replicate}
use Rattle.std.specs.List.{AllByRecursion, IsDistinct}
use Rattle.std.proofs.lemmas.Bool.{eqb-false, ne_eqb}
use Rattle.std.proofs.lemmas.List.{get_or-set_same, get_or-set_other, length-set, length-replicate, get_or-replicate}
use Rattle.pt_base.proofs.Laws.{chosen}
use Rattle.pt_image.specs.declared.image.Point.{Point}
use Rattle.pt_image.specs.Ranges.{places_of}
use Rattle.pt_image.specs.Reading.{fresh}

abbrev Inside : ℕ → List Point → Type 0
Inside n xs = AllByRecursion (λ (x : Point). x.at < n) xs

-- none of the places has its mark
abbrev Unmarked : List Bool → List Point → Type 0
Unmarked seen xs = AllByRecursion (λ (x : Point). get_or seen x.at true ≡ false) xs

abbrev Distinct : List Point → Type 0
Distinct xs = IsDistinct (λ m n. eqb m n) (places_of xs)

-- places without their marks once one more is set are those without their marks before, other than that place
apart : (seen : List Bool) (at : ℕ) (xs : List Point) → at < length seen → Unmarked (set seen at true) xs → Unmarked seen xs × AllByRecursion (λ y. eqb at y ≡ false) (places_of xs)
apart seen at [] inside h = (tt, tt)
apart seen at (x ∷ xs) inside h =
    let other : at ≡ x.at → ⊥ = λ e. absurd (let same = get_or-set_same seen at true true inside in let e2 : get_or (set seen at true) at true ≡ false = subst (λ k. get_or (set seen at true) k true ≡ false) (sym e) h.0 in let clash = sym same ∙ e2 in cc) in
    let rest = apart seen at xs inside h.1 in
    let kept : get_or seen x.at true ≡ false = sym (get_or-set_other seen at x.at true true (λ e. other (sym e))) ∙ h.0 in
    ((kept, rest.0), (ne_eqb at x.at other, rest.1))

joint : (seen : List Bool) (at : ℕ) (xs : List Point) → Unmarked seen xs → AllByRecursion (λ y. eqb at y ≡ false) (places_of xs) → Unmarked (set seen at true) xs
joint seen at [] h k = tt
joint seen at (x ∷ xs) h k =
    (get_or-set_other seen at x.at true true (λ e. eqb-false at x.at k.0 (sym e)) ∙ h.0, joint seen at xs h.1 k.1)

fresh_found : (seen : List Bool) (xs : List Point) → Inside (length seen) xs → fresh seen xs ≡ true → Unmarked seen xs × Distinct xs
unfolding IsDistinct
fresh_found seen [] inside e = (tt, tt)
fresh_found seen (x ∷ xs) inside e =
    elim (chosen (get_or seen x.at true) false (fresh (set seen x.at true) xs) true e) [
      | inl p ↦ let clash = p.1 in absurd cc
      | inr p ↦
          let within : Inside (length (set seen x.at true)) xs = subst (λ (n : ℕ). Inside n xs) (sym (length-set seen x.at true)) inside.1 in
          let f = fresh_found (set seen x.at true) xs within p.1 in
          let a = apart seen x.at xs inside.0 f.0 in
          ((p.0, a.0), (a.1, f.1))
    ]

fresh_again : (seen : List Bool) (xs : List Point) → Unmarked seen xs → Distinct xs → fresh seen xs ≡ true
unfolding IsDistinct
fresh_again seen [] h d = refl
fresh_again seen (x ∷ xs) h d = rw h.0 (fresh_again (set seen x.at true) xs (joint seen x.at xs h.1 d.0) d.1)

unmarked : (n : ℕ) (xs : List Point) → Inside n xs → Unmarked (replicate n false) xs
unmarked n [] inside = tt
unmarked n (x ∷ xs) inside = (get_or-replicate n x.at false true inside.0, unmarked n xs inside.1)

pub distinct_found : (n : ℕ) (xs : List Point) → Inside n xs → fresh (replicate n false) xs ≡ true → Distinct xs
distinct_found n xs inside e = let within : Inside (length (replicate n false)) xs = subst (λ (m : ℕ). Inside m xs) (sym (length-replicate n false)) inside in (fresh_found (replicate n false) xs within e).1

pub distinct_again : (n : ℕ) (xs : List Point) → Inside n xs → Distinct xs → fresh (replicate n false) xs ≡ true
distinct_again n xs inside d = fresh_again (replicate n false) xs (unmarked n xs inside) d
