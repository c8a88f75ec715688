-- What the points for a place ask.
use Rattle.std.proofs.Common.{◌≡◌, ℕ, Bool, true, false, ◌||◌, ◌&&◌, not, ◌==◌, List, [], ◌∷◌, ◌++◌, ◌+◌, ◌≢◌, zero, suc, drop, map, flat_map, refl, sym, ap, ◌∙◌, arith}
use Rattle.std.proofs.lemmas.Bool.Decides.{nat_tests}
use Rattle.std.specs.Prelude.{slice_get, Option, Some, None, if◌then◌else◌}
use Rattle.std.specs.Option.{option_or}
use Rattle.std.specs.List.{list_any, list_all}
use Rattle.pt_image.specs.declared.Point.{Point}
use Rattle.pt_image.specs.declared.Parts.{Parts}
use Rattle.tk_cert.specs.declared.cert.CertParts.{CertParts}
use Rattle.tk_cert.specs.Demands.{Demand}
use Rattle.tk_paths.specs.Kinds.{points_at}
use Rattle.tk_paths.specs.Shape.{earlier, meet, children_at}
use Rattle.tk_paths.specs.Acceptance.{has_resumed, fork_resumes, resumed_strong, resumed_join, resumed_handlers}
use Rattle.tk_paths.specs.declared.view.Side.TheVariants.{ToPause, ToEnd}
use Rattle.tk_shape.specs.Refused.{refused}
use Rattle.tk_shape.proofs.Refusals.{refused_append}
use Rattle.tk_judge.specs.Asks.{is_clear, if_any, fork_both, fork_to_pause, fork_to_end}

pub one_asks : (f : Point → List Demand) (p : Point) → refused (flat_map f (p ∷ [])) ≡ refused (f p)
one_asks f p = ap refused (nil (f p))
  where
    nil : (xs : List Demand) → xs ++ [] ≡ xs
    nil [] = refl
    nil (x ∷ xs) = ap (λ l. x ∷ l) (nil xs)

met : (e b : Bool) (g : Point → Bool) (p : Point) (rest : List Point) (whole : Bool) → g p ≡ b → whole ≡ (if b then list_all g rest else false) → e ≡ false
    → list_all g (if e then [] else p ∷ rest) ≡ whole
met true b g p rest whole gp w h = cc h
met false true g p rest whole gp w h = ap (λ x. x && list_all g rest) gp ∙ sym w
met false false g p rest whole gp w h = ap (λ x. x && list_all g rest) gp ∙ sym w

here : (points : List Point) (i : ℕ) (p : Point) → slice_get points i ≡ Some p → drop i points ≡ p ∷ drop (i + 1) points
here points i p h =
    let e : suc i ≡ i + 1 = omega arith in
    drop-here points i h ∙ ap (λ n. p ∷ drop n points) e
  where
    drop-here : (xs : List Point) (n : ℕ) → slice_get xs n ≡ Some p → drop n xs ≡ p ∷ drop (suc n) xs
    drop-here [] n h = cc h
    drop-here (y ∷ xs) zero h = let e : y ≡ p = cc h in ap (λ z. z ∷ xs) e
    drop-here (y ∷ xs) (suc n) h = drop-here xs n h

same-place : (a b : ℕ) → a ≡ b → (a == b) ≡ true
same-place a b h = grind (arith, nat_tests)

other-place : (a b : ℕ) → a ≢ b → (a == b) ≡ false
other-place a b h = grind (arith, nat_tests)

module _ (image : Parts) (children : ℕ × ℕ) (place : ℕ) (points : List Point) (i : ℕ) (p : Point) (whole : Bool) (at : slice_get points i ≡ Some p)
    (before : whole ≡ list_all (is_clear image children) (earlier (drop i points) place)) where
  -- the point of the place itself ends the list
  pub earlier_here : p.at ≡ place → whole ≡ true
  earlier_here same =
      before ∙ ap (λ l. list_all (is_clear image children) (earlier l place)) (here points i p at)
      ∙ ap (λ e. list_all (is_clear image children) (if e then [] else p ∷ earlier (drop (i + 1) points) place)) (same-place p.at place same)

  -- an earlier one has one of the children
  pub earlier_met : p.at ≢ place → meet children (children_at image p.at) ≡ true → whole ≡ false
  earlier_met other m =
      before ∙ ap (λ l. list_all (is_clear image children) (earlier l place)) (here points i p at)
      ∙ met (p.at == place) false (is_clear image children) p (earlier (drop (i + 1) points) place) false (ap (λ b. not b) m) refl (other-place p.at place other)

  -- an earlier one has none of them
  pub earlier_past : p.at ≢ place → meet children (children_at image p.at) ≡ false → whole ≡ list_all (is_clear image children) (earlier (drop (i + 1) points) place)
  earlier_past other m =
      before ∙ ap (λ l. list_all (is_clear image children) (earlier l place)) (here points i p at)
      ∙ met (p.at == place) true (is_clear image children) p (earlier (drop (i + 1) points) place) (list_all (is_clear image children) (earlier (drop (i + 1) points) place)) (ap (λ b. not b) m) refl (other-place p.at place other)

four : (x a b c : List Demand) → x ++ a ++ b ++ c ≡ x ++ (a ++ b ++ c)
four [] a b c = refl
four (d ∷ x) a b c = ap (λ l. d ∷ l) (four x a b c)

pub fork_resumes_are : (image : Parts) (cert : CertParts) (costs : List ℕ) (p : Point) (lo count : ℕ) →
    refused (fork_resumes image cert costs p lo count) ≡ refused (if_any (has_resumed image cert costs lo count) (fork_both image cert costs p lo count))
fork_resumes_are image cert costs p lo count = by (has_resumed image cert costs lo count)
  where
    by : (b : Bool) → refused (if b then fork_to_pause image cert costs p lo count ++ resumed_strong image cert costs p ToEnd ++ resumed_join image cert costs p lo count ToEnd ++ resumed_handlers image cert costs p lo count ToEnd else [])
        ≡ refused (if_any b (fork_both image cert costs p lo count))
    by true = ap refused (four (fork_to_pause image cert costs p lo count) (resumed_strong image cert costs p ToEnd) (resumed_join image cert costs p lo count ToEnd) (resumed_handlers image cert costs p lo count ToEnd))
    by false = refl
