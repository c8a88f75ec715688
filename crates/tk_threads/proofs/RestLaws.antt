-- What follows a rest, level by level.
use Rattle.std.proofs.Common.{◌≡◌, ◌≤◌, ◌<◌, ◌+◌, ◌-◌, ◌++◌, ℕ, zero, suc, List, [], ◌∷◌, min, length, get_or, drop, if◌then◌else◌, Option, Some, None, refl, sym, ap, ◌∙◌, ⊎_elim, arith, drop-cons}
use mathlib.Core.Path.{ap₂}
use Rattle.std.proofs.lemmas.Bool.{cases_lt}
use Rattle.std.proofs.lemmas.List.{drop_all}
use Rattle.mb_isa.specs.declared.Class.TheVariants as class
use Rattle.pt_image.specs.declared.Parts.{Parts}
use Rattle.tk_paths.specs.declared.view.Side.{Side}
use Rattle.tk_paths.specs.declared.view.Side.TheVariants.{ToPause, ToEnd}
use Rattle.tk_paths.specs.declared.view.View.TheVariants.{On}
use Rattle.tk_paths.specs.Sums.{plus, greater}
use Rattle.tk_paths.specs.Kinds.{abort_at}
use Rattle.tk_paths.specs.Acceptance.{on_side, more}
use Rattle.tk_paths.specs.Greatest.{stays}
use Rattle.tk_paths.specs.Numbers.{Numbers, Handler, level, handled, rested, left, cost}
use Rattle.tk_paths.specs.declared.levels.Levels.{Levels}
use Rattle.tk_paths.specs.Levels.{numbers_of, levels_to}
use Rattle.tk_paths.proofs.LevelLaws.{told}

module _ (image : Parts) (costs : List ℕ) where
  pub handled-zero : (side : Side) (aborts : List Handler) → handled image costs side aborts 0 ≡ None
  handled-zero side [] = refl
  handled-zero side (h ∷ aborts) = refl

  -- behind all aborts there is none more
  pub handled-settles : (side : Side) (aborts : List Handler) (k m : ℕ) → length aborts ≤ k → length aborts ≤ m →
      handled image costs side aborts k ≡ handled image costs side aborts m
  handled-settles side [] k m p q = refl
  handled-settles side (h ∷ aborts) zero m p q = absurd (omega arith)
  handled-settles side (h ∷ aborts) (suc k) zero p q = absurd (omega arith)
  handled-settles side (h ∷ aborts) (suc k) (suc m) p q =
      ap (greater (if (abort_at image h.0).weak then on_side side (Some (h.1)) else None)) (handled-settles side aborts k m (omega arith) (omega arith))

  pub handled-past : (side : Side) (aborts : List Handler) (k : ℕ) → handled image costs side (drop (min k (length aborts)) aborts) (k - min k (length aborts)) ≡ None
  handled-past side aborts k =
      ⊎_elim
      (λ (b : k < length aborts).
      let e : k - min k (length aborts) ≡ 0 = omega arith in
      ap (handled image costs side (drop (min k (length aborts)) aborts)) e ∙ handled-zero side (drop (min k (length aborts)) aborts))
      (λ (b : length aborts ≤ k).
      let e : drop (min k (length aborts)) aborts ≡ [] = drop_all (min k (length aborts)) aborts (omega arith) in
      ap (λ xs. handled image costs side xs (k - min k (length aborts))) e) (cases_lt k (length aborts))

  pub rested-told : (aborts : List Handler) (l : Levels) → l.levels ≡ levels_to (rested image costs aborts) (length aborts + 1) → l.value ≡ None →
      numbers_of l ≡ rested image costs aborts
  rested-told aborts l e v =
      told l (rested image costs aborts) (length aborts + 1) (omega arith) e v
      (λ side k b. ap (greater (stays side)) (handled-settles side aborts k (length aborts + 1 - 1) (omega arith) (omega arith)))

  pub left-told : (aborts : List Handler) (V : Numbers) (l : Levels) → l.levels ≡ levels_to (left image costs aborts V) (length aborts + 1) → l.value ≡ None →
      numbers_of l ≡ left image costs aborts V
  left-told aborts V l e v =
      told l (left image costs aborts V) (length aborts + 1) (omega arith) e v
      (λ side k b.
      let same : min k (length aborts) ≡ min (length aborts + 1 - 1) (length aborts) = omega arith in
      ap (λ i. more (cost image costs class.Leave) (V (On side i))) same)

  pub handled-start : (side : Side) (aborts : List Handler) (k i : ℕ) → i ≡ min k (length aborts) → None ≡ handled image costs side (drop i aborts) (k - i)
  handled-start side aborts k i e = sym (ap (λ i. handled image costs side (drop i aborts) (k - i)) e ∙ handled-past side aborts k)

  pub handled-more : (side : Side) (aborts : List Handler) (i k : ℕ) (h : Handler) (x m r : Option ℕ) → 1 ≤ i → i ≤ length aborts → i ≤ k →
      h ≡ get_or aborts (i - 1) (0, (None, None)) → x ≡ (if (abort_at image h.0).weak then on_side side (Some (h.1)) else None) →
      m ≡ handled image costs side (drop i aborts) (k - i) → r ≡ greater x m → r ≡ handled image costs side (drop (i - 1) aborts) (k - (i - 1))
  handled-more side aborts i k h x m r p q w at e f g =
      let here : i - 1 < length aborts = omega arith in
      let next : suc (i - 1) ≡ i = omega arith in
      let left : suc (k - i) ≡ k - (i - 1) = omega arith in
      let front : h ∷ drop i aborts ≡ drop (i - 1) aborts =
      ap₂ (λ (h : Handler) (rest : List Handler). h ∷ rest) at (ap (λ i. drop i aborts) (sym next)) ∙ sym (drop-cons aborts (i - 1) (0, (None, None)) here) in
      g ∙ ap₂ greater e f ∙ ap₂ (handled image costs side) front left

  pub rested-pair : (aborts : List Handler) (k : ℕ) (p : Option ℕ × Option ℕ) (x : Option ℕ) →
      p.0 ≡ handled image costs ToPause aborts k → p.1 ≡ handled image costs ToEnd aborts k → x ≡ greater (Some 0) p.0 →
      ◌≡◌ {A = Option ℕ × Option ℕ} (x, p.1) (level (rested image costs aborts) k)
  rested-pair aborts k p x e f g =
      let pair : Option ℕ → Option ℕ → Option ℕ × Option ℕ = λ x y. (x, y) in
      ap₂ pair (g ∙ ap (greater (Some 0)) e) f

  pub left-pair : (aborts : List Handler) (V : Numbers) (k n : ℕ) (p : Option ℕ × Option ℕ) (x y : Option ℕ) → k < length aborts + 1 →
      n ≡ cost image costs class.Leave → p ≡ level V k → x ≡ plus (Some n) p.0 → y ≡ plus (Some n) p.1 →
      ◌≡◌ {A = Option ℕ × Option ℕ} (x, y) (level (left image costs aborts V) k)
  left-pair aborts V k n p x y h c e f g =
      let pair : Option ℕ → Option ℕ → Option ℕ × Option ℕ = λ x y. (x, y) in
      let inner : k ≡ min k (length aborts) = omega arith in
      ap₂ pair (f ∙ ap₂ (λ n p. plus (Some n) p.0) c e) (g ∙ ap₂ (λ n p. plus (Some n) p.1) c e)
      ∙ ap (λ i. (more (cost image costs class.Leave) (V (On ToPause i)), more (cost image costs class.Leave) (V (On ToEnd i)))) inner
