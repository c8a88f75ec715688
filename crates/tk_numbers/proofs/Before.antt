-- The routines and the sections that are read, one section after another.
use Rattle.std.proofs.Common.{◌≡◌, ℕ, zero, suc, ◌+◌, ◌-◌, ◌<◌, ◌≤◌, ◌++◌, max, true, false, if◌then◌else◌, List, [], ◌∷◌, map, flat_map, take, drop, length, get_or, slice_index_or, refl, sym, ap, ◌∙◌, arith}
use Rattle.std.proofs.Math.Seq.{drop-cons}
use Rattle.std.proofs.Math.ListN.{drop_of_length-le}
use Rattle.std.proofs.lemmas.List.{take-map, take-append-drop, append-nil, append_assoc, length-take, length-map, length-append}
use Rattle.pt_image.specs.declared.Parts.{Parts}
use Rattle.tk_paths.specs.declared.Region.{Region as KeptRegion}
use Rattle.tk_paths.specs.declared.Region.TheVariants as kept_region
use Rattle.tk_paths.specs.declared.Section.{Section as KeptSection}
use Rattle.tk_paths.specs.declared.Section.TheVariants as kept
use Rattle.tk_paths.specs.Regions.{Region, links_in, through}
use Rattle.tk_paths.specs.Programs.{Section}
use Rattle.tk_paths.specs.Trees.{read_region, routine_at, regions_from, read_sections}
use Rattle.tk_paths.proofs.Readings.{read-Parts}
use Rattle.tk_numbers.specs.Charges.{routines_behind, routines_in, IsValued}
use Rattle.tk_numbers.specs.Routines.{AreLinks, is_routine, read_section, routines_after}

-- the place behind regions is of no matter for their links
pub links_end : (rs : List Region) (q : ℕ) → links_in (regions_from q rs) ≡ links_in (regions_from 0 rs)
links_end [] q = refl
links_end (r ∷ rs) q = ap (λ n. max (links_in r) n) (links_end rs q)

-- the links of the routine of a number
pub links_at : (routines : List Region) (p f : ℕ) → slice_index_or (map links_in routines) f 0 ≡ links_in (routine_at routines p f)
links_at [] p f = refl
links_at (r ∷ routines) p zero = refl
links_at (r ∷ routines) p (suc f) = links_at routines p f

behind-first : (rs : List Region) (x : KeptSection) (xs : List KeptSection) → routines_behind rs (x ∷ xs) ≡ routines_behind (routines_after rs x) xs
behind-first rs (kept.OfThread s code) xs = refl
behind-first rs (kept.OfRoutine r) xs = refl
behind-first rs (kept.OfCondition p n q) xs = refl
behind-first rs (kept.Unused n) xs = refl

read-first : (rs : List Region) (x : KeptSection) (xs : List KeptSection) →
    read_sections rs (x ∷ xs) ≡ read_section rs x ∷ read_sections (routines_after rs x) xs
read-first rs (kept.OfThread s code) xs = refl
read-first rs (kept.OfRoutine r) xs = refl
read-first rs (kept.OfCondition p n q) xs = refl
read-first rs (kept.Unused n) xs = refl

-- one section more
behind-last : (rs : List Region) (xs : List KeptSection) (i : ℕ) (d : KeptSection) → i < length xs →
    routines_behind rs (take (suc i) xs) ≡ routines_after (routines_behind rs (take i xs)) (get_or xs i d)
behind-last rs [] i d h = absurd (omega (arith, h))
behind-last rs (x ∷ xs) zero d h = behind-first rs x []
behind-last rs (x ∷ xs) (suc i) d h =
    let g : i < length xs = omega (arith, h) in
    behind-first rs x (take (suc i) xs) ∙ behind-last (routines_after rs x) xs i d g
    ∙ sym (ap (λ r. routines_after r (get_or xs i d)) (behind-first rs x (take i xs)))

pub in_none : routines_in [] ≡ []
unfolding routines_in
in_none = refl

pub in_more : (xs : List KeptSection) (i : ℕ) (d : KeptSection) → i < length xs →
    routines_in (take (i + 1) xs) ≡ routines_after (routines_in (take i xs)) (get_or xs i d)
unfolding routines_in
in_more xs i d h = let e : i + 1 ≡ suc i = omega arith in ap (λ n. routines_behind [] (take n xs)) e ∙ behind-last [] xs i d h

-- one routine more, where that is one
after-size : (rs : List Region) (xs : List KeptSection) → (ys : List Region) × (routines_behind rs xs ≡ rs ++ ys)
after-size rs [] = ([], sym (append-nil rs))
after-size rs (kept.OfThread s code ∷ xs) = after-size rs xs
after-size rs (kept.OfRoutine r ∷ xs) =
    let p = after-size (rs ++ read_region rs r ∷ []) xs in
    (read_region rs r ∷ p.0, p.1 ∙ append_assoc rs (read_region rs r ∷ []) p.0)
after-size rs (kept.OfCondition p n q ∷ xs) = after-size rs xs
after-size rs (kept.Unused n ∷ xs) = after-size rs xs

behind-split : (rs : List Region) (xs ys : List KeptSection) → routines_behind rs (xs ++ ys) ≡ routines_behind (routines_behind rs xs) ys
behind-split rs [] ys = refl
behind-split rs (x ∷ xs) ys =
    behind-first rs x (xs ++ ys) ∙ behind-split (routines_after rs x) xs ys
    ∙ sym (ap (λ r. routines_behind r ys) (behind-first rs x xs))

take-front : {X : Type 0} (xs ys : List X) → take (length xs) (xs ++ ys) ≡ xs
take-front [] ys = refl
take-front (x ∷ xs) ys = ap (λ l. x ∷ l) (take-front xs ys)

-- the routines before are the first of all
before-first : (xs : List KeptSection) (i : ℕ) → take (length (routines_behind [] (take i xs))) (routines_behind [] xs) ≡ routines_behind [] (take i xs)
before-first xs i =
    let b = routines_behind [] (take i xs) in
    let p = after-size b (drop i xs) in
    let e : routines_behind [] xs ≡ b ++ p.0 =
    ap (routines_behind []) (sym (take-append-drop i xs)) ∙ behind-split [] (take i xs) (drop i xs) ∙ p.1 in
    ap (take (length b)) e ∙ take-front b p.0

known : {X : Type 0} (f : Region → X) (xs : List KeptSection) (i : ℕ) (all : List X) → all ≡ map f (routines_in xs) →
    take (length (routines_in (take i xs))) all ≡ map f (routines_in (take i xs))
unfolding routines_in
known f xs i all e =
    ap (take (length (routines_behind [] (take i xs)))) e ∙ take-map f (length (routines_behind [] (take i xs))) (routines_behind [] xs)
    ∙ ap (map f) (before-first xs i)

pub values_known : (image : Parts) (costs : List ℕ) (xs : List KeptSection) (i : ℕ) (values : List ℕ) → IsValued image costs values xs →
    IsValued image costs (take (length (routines_in (take i xs))) values) (take i xs)
values_known image costs xs i values e = known (through image costs) xs i values e

pub links_known : (xs : List KeptSection) (i : ℕ) (links : List ℕ) → AreLinks links xs → AreLinks (take (length (routines_in (take i xs))) links) (take i xs)
links_known xs i links e = known links_in xs i links e

-- the routines before are no more than all
pub fewer : (xs : List KeptSection) (i : ℕ) → length (routines_in (take i xs)) ≤ length (routines_in xs)
unfolding routines_in
fewer xs i =
    let e = ap length (before-first xs i) in
    let f = length-take (length (routines_behind [] (take i xs))) (routines_behind [] xs) in
    omega (arith, e, f)

-- what is read from a section on
pub reads_on : (xs : List KeptSection) (i : ℕ) (d : KeptSection) → i < length xs →
    read_sections (routines_in (take i xs)) (drop i xs)
    ≡ read_section (routines_in (take i xs)) (get_or xs i d) ∷ read_sections (routines_in (take (i + 1) xs)) (drop (i + 1) xs)
reads_on xs i d h =
    let e : i + 1 ≡ suc i = omega arith in
    ap (read_sections (routines_in (take i xs))) (drop-cons xs i d h)
    ∙ read-first (routines_in (take i xs)) (get_or xs i d) (drop (suc i) xs)
    ∙ ap (λ r. read_section (routines_in (take i xs)) (get_or xs i d) ∷ read_sections r (drop (suc i) xs)) (sym (in_more xs i d h))
    ∙ ap (λ n. read_section (routines_in (take i xs)) (get_or xs i d) ∷ read_sections (routines_in (take (i + 1) xs)) (drop n xs)) (sym e)

-- one section more in front
pub flat_more : {Y : Type 0} (f : Section → List Y) (xs : List KeptSection) (i : ℕ) (d : KeptSection) → i < length xs →
    f (read_section (routines_in (take i xs)) (get_or xs i d)) ++ flat_map f (read_sections (routines_in (take (i + 1) xs)) (drop (i + 1) xs))
    ≡ flat_map f (read_sections (routines_in (take i xs)) (drop i xs))
flat_more f xs i d h = sym (ap (flat_map f) (reads_on xs i d h))

-- one line behind others
pub and_one : {X : Type 0} (xs ys : List X) (x : X) → (xs ++ x ∷ []) ++ ys ≡ xs ++ x ∷ ys
and_one xs ys x = append_assoc xs (x ∷ []) ys

-- how many routines are before
size-more : (xs : List KeptSection) (i : ℕ) (d : KeptSection) → i < length xs →
    length (routines_in (take (i + 1) xs)) ≡ length (routines_in (take i xs)) + (if is_routine (get_or xs i d) then 1 else 0)
size-more xs i d h = ap length (in_more xs i d h) ∙ size (routines_in (take i xs)) (get_or xs i d)
  where
    size : (rs : List Region) (x : KeptSection) → length (routines_after rs x) ≡ length rs + (if is_routine x then 1 else 0)
    size rs (kept.OfThread s code) = omega arith
    size rs (kept.OfRoutine r) = length-append rs (read_region rs r ∷ [])
    size rs (kept.OfCondition p n q) = omega arith
    size rs (kept.Unused n) = omega arith

pub values_fit : (image : Parts) (costs : List ℕ) (xs : List KeptSection) (i : ℕ) (values : List ℕ) → IsValued image costs values xs →
    length (routines_in (take i xs)) ≤ length values
values_fit image costs xs i values e =
    let f = fewer xs i in
    let g : length values ≡ length (routines_in xs) = ap length e ∙ length-map (routines_in xs) (through image costs) in
    omega (arith, f, g)

pub links_fit : (xs : List KeptSection) (i : ℕ) (links : List ℕ) → AreLinks links xs → length (routines_in (take i xs)) ≤ length links
links_fit xs i links e =
    let f = fewer xs i in
    let g : length links ≡ length (routines_in xs) = ap length e ∙ length-map (routines_in xs) links_in in
    omega (arith, f, g)

pub size_there : (xs : List KeptSection) (i : ℕ) (d : KeptSection) → i < length xs → is_routine (get_or xs i d) ≡ true →
    length (routines_in (take (i + 1) xs)) ≡ length (routines_in (take i xs)) + 1
size_there xs i d h e = size-more xs i d h ∙ ap (λ b. length (routines_in (take i xs)) + (if b then 1 else 0)) e

pub size_past : (xs : List KeptSection) (i : ℕ) (d : KeptSection) → i < length xs → is_routine (get_or xs i d) ≡ false →
    length (routines_in (take (i + 1) xs)) ≡ length (routines_in (take i xs))
size_past xs i d h e =
    let z : length (routines_in (take i xs)) + 0 ≡ length (routines_in (take i xs)) = omega arith in
    size-more xs i d h ∙ ap (λ b. length (routines_in (take i xs)) + (if b then 1 else 0)) e ∙ z

-- the links of all parts
pub links_done : (rs : List Region) (parts : List KeptRegion) (q i most : ℕ) → length parts ≤ i →
    max most (links_in (regions_from 0 (map (read_region rs) (drop i parts)))) ≡ links_in (regions_from 0 (map (read_region rs) parts)) →
    most ≡ links_in (read_region rs (kept_region.Sequence parts q))
links_done rs parts q i most h e =
    let d : drop i parts ≡ [] = drop_of_length-le parts h in
    let m : max most 0 ≡ most = omega arith in
    sym m ∙ sym (ap (λ l. max most (links_in (regions_from 0 (map (read_region rs) l)))) d) ∙ e
    ∙ sym (links_end (map (read_region rs) parts) q) ∙ sym (ap links_in (read-Parts rs parts q))

pub fits_take : {X : Type 0} (k : ℕ) (xs : List X) → k ≤ length xs → k ≡ length (take k xs)
fits_take k xs h = let e = length-take k xs in omega (arith, e, h)

-- one section more in front of what is read
pub flat_step : {Y : Type 0} (f : Section → List Y) (xs : List KeptSection) (i : ℕ) (d x : KeptSection) (new old : List Y) → 1 ≤ i → i ≤ length xs →
    x ≡ get_or xs (i - 1) d → new ≡ f (read_section (routines_in (take (i - 1) xs)) x) ++ old →
    old ≡ flat_map f (read_sections (routines_in (take i xs)) (drop i xs)) →
    new ≡ flat_map f (read_sections (routines_in (take (i - 1) xs)) (drop (i - 1) xs))
flat_step f xs i d x new old low high e n o =
    let a : i ≡ (i - 1) + 1 = omega (arith, low) in
    let h : i - 1 < length xs = omega (arith, low, high) in
    n ∙ ap (λ y. f (read_section (routines_in (take (i - 1) xs)) y) ++ old) e
    ∙ ap (λ l. f (read_section (routines_in (take (i - 1) xs)) (get_or xs (i - 1) d)) ++ l)
    (o ∙ ap (λ j. flat_map f (read_sections (routines_in (take j xs)) (drop j xs))) a)
    ∙ flat_more f xs (i - 1) d h
