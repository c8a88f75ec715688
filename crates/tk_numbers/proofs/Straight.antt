-- Units by the places where they begin are those that stand from a place on.
use Rattle.std.proofs.Common.{◌≡◌, ℕ, zero, suc, ◌+◌, ◌++◌, List, [], ◌∷◌, refl, ap, sym, ◌∙◌, ◌-◌, ◌<◌, ◌≤◌, append_assoc, add_assoc, arith}
use mathlib.Core.Path.{ap₂}
use Rattle.pt_image.specs.declared.Parts.{Parts}
use Rattle.tk_paths.specs.Regions.{behind, unit_word, extra, word_cost, units_cost}
use Rattle.tk_paths.specs.Numbers.{Kind, Numbers, after, unit_lines, units_lines}
use Rattle.tk_numbers.specs.Units.{places_from, charged, lines_at}

module _ (image : Parts) (costs : List ℕ) where
  pub charged_is : (p n : ℕ) → charged image costs (places_from image p n) ≡ units_cost image costs p n
  charged_is p zero = refl
  charged_is p (suc n) = ap (λ c. (extra image costs p + word_cost image costs (unit_word image p)) + c) (charged_is (behind image p) n)

  pub lines_are : (kind : Kind) (p n : ℕ) (V : Numbers) → lines_at image costs kind (places_from image p n) V ≡ units_lines image costs kind p n V
  lines_are kind p zero V = refl
  lines_are kind p (suc n) V =
      ap (λ c. unit_lines image costs kind p (after (word_cost image costs (unit_word image p) + c) V)
      ++ lines_at image costs kind (places_from image (behind image p) n) V) (charged_is (behind image p) n)
      ∙ ap (λ ls. unit_lines image costs kind p (after (word_cost image costs (unit_word image p) + units_cost image costs (behind image p) n) V) ++ ls)
      (lines_are kind (behind image p) n V)

-- one place more in front of the rest
pub one_more : (image : Parts) (places : List ℕ) (p n k : ℕ) → k < n →
    places ++ p ∷ [] ++ places_from image (behind image p) (n - (k + 1)) ≡ places ++ places_from image p (n - k)
one_more image places p n k h =
    let e : n - k ≡ suc (n - (k + 1)) = omega arith in
    append_assoc places (p ∷ []) (places_from image (behind image p) (n - (k + 1))) ∙ ap (λ m. places ++ places_from image p m) (sym e)

-- one unit more is charged: x for its upper half, u for its word
pub charge_step : (image : Parts) (costs : List ℕ) (n k p q total more x u all : ℕ) → k < n →
    more ≡ total + (x + u) → x ≡ extra image costs p → u ≡ word_cost image costs (unit_word image p) → q ≡ behind image p →
    total + units_cost image costs p (n - k) ≡ all → more + units_cost image costs q (n - (k + 1)) ≡ all
charge_step image costs n k p q total more x u all h em ex eu eq e =
    let r : ℕ = n - (k + 1) in
    let l : n - k ≡ suc r = omega arith in
    ap₂ (λ t a. t + units_cost image costs a r) (em ∙ ap₂ (λ a b. total + (a + b)) ex eu) eq
    ∙ add_assoc total (extra image costs p + word_cost image costs (unit_word image p)) (units_cost image costs (behind image p) r)
    ∙ ap (λ m. total + units_cost image costs p m) (sym l) ∙ e

-- what is charged so far, and one unit more, is no more than all
pub charge_fits : (image : Parts) (costs : List ℕ) (n k p total x u all b : ℕ) → k < n → x ≡ extra image costs p → u ≡ word_cost image costs (unit_word image p) →
    total + units_cost image costs p (n - k) ≡ all → all ≤ b → total + (x + u) ≤ b
charge_fits image costs n k p total x u all b h ex eu e l =
    let r : ℕ = n - (k + 1) in
    let s : n - k ≡ suc r = omega (arith, h) in
    let f = ap (units_cost image costs p) s in
    omega (arith, f, ex, eu, e, l)
