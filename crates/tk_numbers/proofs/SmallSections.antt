-- Regions one behind the other, and sections one after another: what is small of all is of each.
use Rattle.std.proofs.Common.{◌≡◌, ℕ, zero, suc, ◌+◌, ◌-◌, ◌<◌, ◌≤◌, List, [], ◌∷◌, map, max, take, drop, drop-cons, length, get_or, refl, sym, ap, ◌∙◌, subst, arith}
use mathlib.Core.Path.{ap₂}
use Rattle.std.specs.List.{AllByRecursion}
use Rattle.tk_paths.specs.declared.Section.{Section as KeptSection}
use Rattle.tk_paths.specs.declared.Region.{Region as KeptRegion}
use Rattle.tk_paths.specs.declared.Region.TheVariants as kept_region
use Rattle.tk_paths.specs.Regions.{Region, links_in}
use Rattle.tk_paths.specs.Programs.{Section}
use Rattle.tk_paths.specs.Trees.{regions_from, read_region, read_sections}
use Rattle.tk_numbers.specs.Charges.{routines_in}
use Rattle.tk_numbers.specs.Routines.{read_section}
use Rattle.tk_numbers.proofs.Values.{parts_read}
use Rattle.tk_numbers.proofs.Before.{links_end, in_none, reads_on}

-- ---- the links inside regions one behind the other

module _ (routines : List Region) (parts : List KeptRegion) (i : ℕ) (x : KeptRegion) (h : i < length parts) (is : x ≡ get_or parts i x) where
  links-part : links_in (regions_from 0 (map (read_region routines) (drop i parts)))
      ≡ max (links_in (read_region routines x)) (links_in (regions_from 0 (map (read_region routines) (drop (i + 1) parts))))
  links-part =
      let k : suc i ≡ i + 1 = omega arith in
      let e : drop i parts ≡ x ∷ drop (i + 1) parts = drop-cons parts i x h ∙ ap₂ (λ (y : KeptRegion) (n : ℕ). y ∷ drop n parts) (sym is) k in
      ap (λ (l : List KeptRegion). links_in (regions_from 0 (map (read_region routines) l))) e

  pub links-step : (most here now : ℕ) → here ≡ links_in (read_region routines x) → now ≡ max most here →
      max most (links_in (regions_from 0 (map (read_region routines) (drop i parts)))) ≡ links_in (regions_from 0 (map (read_region routines) parts)) →
      max now (links_in (regions_from 0 (map (read_region routines) (drop (i + 1) parts)))) ≡ links_in (regions_from 0 (map (read_region routines) parts))
  links-step most here now e n all = let p = links-part in omega (arith, p, e, n, all)

  pub links-least : (r : KeptRegion) (kept : List KeptRegion) (q most : ℕ) → r ≡ kept_region.Sequence kept q → parts ≡ kept →
      max most (links_in (regions_from 0 (map (read_region routines) (drop i parts)))) ≡ links_in (regions_from 0 (map (read_region routines) parts)) →
      links_in (read_region routines x) ≤ links_in (read_region routines r)
  links-least r kept q most e same all =
      let p = links-part in
      let w = ap links_in (parts_read routines r kept parts q e same) ∙ links_end (map (read_region routines) parts) q in
      omega (arith, p, w, all)

-- ---- sections, one after another

-- what stands in a list, whatever stands behind it
pub get-same : {X : Type 0} (xs : List X) (i : ℕ) (d e : X) → i < length xs → get_or xs i d ≡ get_or xs i e
get-same [] i d e h = absurd (omega (arith, h))
get-same (x ∷ xs) zero d e h = refl
get-same (x ∷ xs) (suc i) d e h = get-same xs i d e (omega (arith, h))

pub sections-from : (P : Section → Type 0) (xs : List KeptSection) (d : KeptSection) (i : ℕ) → i ≤ length xs → AllByRecursion P (read_sections [] xs) →
    AllByRecursion P (read_sections (routines_in (take i xs)) (drop i xs))
sections-from P xs d zero h all =
    let Q : List Region → Type 0 = λ rs. AllByRecursion P (read_sections rs xs) in subst Q (sym in_none) all
sections-from P xs d (suc i) h all =
    let before = sections-from P xs d i (omega (arith, h)) all in
    let Q : List Section → Type 0 = λ s. AllByRecursion P s in
    let on = subst Q (reads_on xs i d (omega (arith, h))) before in
    let e : i + 1 ≡ suc i = omega arith in
    let R : ℕ → Type 0 = λ k. AllByRecursion P (read_sections (routines_in (take k xs)) (drop k xs)) in
    subst R e on.1

pub section-here : (P : Section → Type 0) (xs : List KeptSection) (i : ℕ) (x : KeptSection) → i < length xs → x ≡ get_or xs i x → AllByRecursion P (read_sections [] xs) →
    P (read_section (routines_in (take i xs)) x)
section-here P xs i x h is all =
    let before = sections-from P xs x i (omega (arith, h)) all in
    let Q : List Section → Type 0 = λ s. AllByRecursion P s in
    let on = subst Q (reads_on xs i x h) before in
    let R : KeptSection → Type 0 = λ y. P (read_section (routines_in (take i xs)) y) in
    subst R (sym is) on.0
