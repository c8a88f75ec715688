-- The numbers with which the slots of a program start: told from later slots, and none to its end where a slot can't end.
use Rattle.std.proofs.Common.{◌≡◌, ◌≤◌, ◌<◌, ◌+◌, ◌-◌, ℕ, zero, suc, false, List, [], ◌∷◌, length, slice_get, slice_index_or, Option, Some, None, refl, sym, ap, ◌∙◌, subst, arith}
use Rattle.std.proofs.lemmas.Option.{none-some, same_Some}
use Rattle.mb_isa.specs.declared.Class.TheVariants as class
use Rattle.mb_isa.specs.Costs.{cost_of}
use Rattle.pt_image.specs.declared.Parts.{Parts}
use Rattle.tk_paths.specs.declared.view.Side.{Side}
use Rattle.tk_paths.specs.declared.view.Side.TheVariants.{ToPause, ToEnd}
use Rattle.tk_paths.specs.declared.view.View.TheVariants.{On}
use Rattle.tk_paths.specs.Acceptance.{on_side}
use Rattle.tk_paths.specs.Codes.{Code, IsLasting, IsLaidIn}
use Rattle.tk_paths.specs.Numbers.{Numbers, level, entered}
use Rattle.tk_paths.specs.Programs.{pair_from, enders_from, ends_in, ended, starts_from, starts_in}
use Rattle.tk_paths.proofs.Lines.{There}
use Rattle.tk_paths.proofs.Entered.{entered-starts, never-ends, parents-of, entered-full}

pub side-of : (V : Numbers) (side : Side) (k : ℕ) → on_side side (Some (level V k)) ≡ V (On side k)
side-of V ToPause k = refl
side-of V ToEnd k = refl

-- a pair that isn't the first
pair-later : (x : Option ℕ × Option ℕ) (xs : List (Option ℕ × Option ℕ)) (s c : ℕ) (side : Side) → s < c → pair_from s (x ∷ xs) side c ≡ pair_from (s + 1) xs side c
pair-later x xs s c side h = let e : c - s ≡ suc (c - (s + 1)) = omega (arith, h) in ap (λ n. on_side side (slice_get (x ∷ xs) n)) e

pub get-there : {X : Type 0} (xs : List X) (i : ℕ) → i < length xs → (x : X) × (slice_get xs i ≡ Some x)
get-there [] i h = absurd (omega (arith, h))
get-there (x ∷ xs) zero h = (x, refl)
get-there (x ∷ xs) (suc i) h = get-there xs i (omega (arith, h))

pub get-within : {X : Type 0} (xs : List X) (i : ℕ) (x : X) → slice_get xs i ≡ Some x → i < length xs
get-within [] i x h = absurd (none-some x h)
get-within (y ∷ xs) zero x h = omega arith
get-within (y ∷ xs) (suc i) x h = let r = get-within xs i x h in omega (arith, r)

module _ (image : Parts) (costs : List ℕ) where
  starts-suffix : (codes : List Code) (s i : ℕ) (code : Code) → slice_get codes i ≡ Some code → IsLaidIn image (s + i) [] code → (side : Side) →
      pair_from s (starts_from image costs s codes) side (s + i) ≡ entered image costs (pair_from s (starts_from image costs s codes)) [] code (ended image costs) (On side 0)
  starts-suffix [] s i code h l side = absurd (none-some code h)
  starts-suffix (c ∷ rest) s zero code h l side =
      let F' = pair_from (s + 1) (starts_from image costs (s + 1) rest) in
      let V = entered image costs F' [] c (ended image costs) in
      let first = level V 0 in
      let F = pair_from s (first ∷ starts_from image costs (s + 1) rest) in
      let e : (s + 0) - s ≡ 0 = omega arith in
      let same : c ≡ code = same_Some c code h in
      let zero_slot : s + 0 ≡ s = omega arith in
      let L : ℕ → Type 0 = λ n. IsLaidIn image n [] code in
      let G : Code → Type 0 = λ x. entered image costs F' [] x (ended image costs) (On side 0) ≡ entered image costs F [] code (ended image costs) (On side 0) in
      ap (λ n. on_side side (slice_get (first ∷ starts_from image costs (s + 1) rest) n)) e ∙ side-of V side 0
      ∙ subst G (sym same)
      (entered-starts image costs F' F s [] code (subst L zero_slot l) (λ x d m. sym (pair-later first (starts_from image costs (s + 1) rest) s d x m)) 0 [] [] (ended image costs) (ended image costs) (omega arith) refl (λ x k w. refl)
      (λ x k w. refl) side 0 (omega arith))
  starts-suffix (c ∷ rest) s (suc i) code h l side =
      let F' = pair_from (s + 1) (starts_from image costs (s + 1) rest) in
      let first = level (entered image costs F' [] c (ended image costs)) 0 in
      let F = pair_from s (first ∷ starts_from image costs (s + 1) rest) in
      let e : s + suc i ≡ (s + 1) + i = omega arith in
      let L : ℕ → Type 0 = λ n. IsLaidIn image n [] code in
      pair-later first (starts_from image costs (s + 1) rest) s (s + suc i) side (omega arith) ∙ ap (F' side) e ∙ starts-suffix rest (s + 1) i code h (subst L e l) side
      ∙ entered-starts image costs F' F (s + suc i) [] code l (λ x d m. sym (pair-later first (starts_from image costs (s + 1) rest) s d x (omega (arith, m)))) 0 [] [] (ended image costs) (ended image costs) (omega arith) refl (λ x k w. refl)
      (λ x k w. refl) side 0 (omega arith)

  -- a slot starts with the numbers of its code
  pub starts-are : (codes : List Code) (c : ℕ) (code : Code) → slice_get codes c ≡ Some code → IsLaidIn image c [] code → (side : Side) → starts_in image costs codes side c ≡ entered image costs (starts_in image costs codes) [] code (ended image costs) (On side 0)
  starts-are codes c code h l side =
      let e : 0 + c ≡ c = omega arith in
      let L : ℕ → Type 0 = λ n. IsLaidIn image n [] code in
      ap (starts_in image costs codes side) (sym e) ∙ starts-suffix codes 0 c code h (subst L (sym e) l) side

  quiet-suffix : (codes : List Code) (s i : ℕ) → slice_index_or (enders_from s codes) i false ≡ false → on_side ToEnd (slice_get (starts_from image costs s codes) i) ≡ None
  quiet-suffix [] s i h = refl
  quiet-suffix (c ∷ rest) s zero h =
      never-ends image costs (pair_from (s + 1) (starts_from image costs (s + 1) rest)) (λ x. slice_index_or (enders_from (s + 1) rest) (x - (s + 1)) false)
      (λ x k. quiet-suffix rest (s + 1) (x - (s + 1)) k) c [] (ended image costs) h
  quiet-suffix (c ∷ rest) s (suc i) h = quiet-suffix rest (s + 1) i h

  -- a slot that can't end has no number to its end
  pub starts-quiet : (codes : List Code) (c : ℕ) → ends_in codes c ≡ false → starts_in image costs codes ToEnd c ≡ None
  starts-quiet codes c h = let e : c - 0 ≡ c = omega arith in ap (λ n. on_side ToEnd (slice_get (starts_from image costs 0 codes) n)) e ∙ quiet-suffix codes 0 c h

  -- each slot has a number with which it starts
  pub starts-there : (codes : List Code) → ((c : ℕ) (code : Code) → slice_get codes c ≡ Some code → IsLaidIn image c [] code × IsLasting (ends_in codes) code) → length codes ≡ length image.slots →
      (fuel c : ℕ) → c < length image.slots → length image.slots ≤ c + fuel → (side : Side) × There (starts_in image costs codes side c)
  starts-there codes known size zero c within enough = absurd (omega (arith, within, enough))
  starts-there codes known size (suc fuel) c within enough =
      let S = starts_in image costs codes in
      let g = get-there codes c (omega (arith, within, size)) in
      let k = known c g.0 g.1 in
      let full = entered-full image costs S (ends_in codes) (starts-quiet codes) g.0 [] (ended image costs) k.1
      (parents-of image costs S (ends_in codes) (starts-quiet codes) c (λ d above below. starts-there codes known size fuel d below (omega (arith, enough, above))) [] g.0 k.0)
      (λ i w. (ToEnd, (cost_of costs class.End, refl))) 0 (omega arith) in
      (full.0, (full.1.0, starts-are codes c g.0 g.1 k.0 full.0 ∙ full.1.1))
