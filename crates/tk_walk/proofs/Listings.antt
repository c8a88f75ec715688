-- Points found by their places.
use Rattle.std.proofs.Common.{◌≡◌, ◌≢◌, ◌<◌, ◌≤◌, ◌+◌, ◌==◌, ◌||◌, ◌&&◌, ℕ, zero, suc, Bool, true, false, List, [], ◌∷◌, length, take, drop, get_or, slice_index_or, nat_lt, ltb-true, ltb-false, Some, None, refl, sym, ap, ◌∙◌, arith}
use Rattle.std.specs.List.{AllByRecursion, IsDistinct}
use Rattle.std.proofs.lemmas.Bool.Decides.{nat_tests}
use Rattle.pt_image.specs.declared.Point.{Point}
use Rattle.pt_image.specs.declared.Parts.{Parts}
use Rattle.pt_image.specs.Ranges.{IsPoint, places_of}
use Rattle.pt_image.specs.Listed.{is_point, is_listed, same_numbers}
use Rattle.tk_walk.specs.Listing.{place_at, IsTable, IsFound}

-- places lie inside the code
pub low_points : (image : Parts) (points : List Point) → AllByRecursion (IsPoint image) points → length image.code ≤ 65536 → AllByRecursion (λ p. p.at < 65536) points
low_points image [] h few = tt
low_points image (x ∷ xs) h few = (omega (arith, h.0.0), low_points image xs h.1 few)

pub low_at : (points : List Point) (i : ℕ) → AllByRecursion (λ p. p.at < 65536) points → i < length points → place_at points i < 65536
low_at [] i h within = absurd (omega arith)
low_at (x ∷ xs) zero h within = h.0
low_at (x ∷ xs) (suc i) h within = low_at xs i h.1 (omega arith)

-- the place of a point that was read
pub at_point : (points : List Point) (i : ℕ) (p : Point) → i < length points → p ≡ get_or points i p → place_at points i ≡ p.at
at_point [] i p within e = absurd (omega arith)
at_point (x ∷ xs) zero p within e = ap (λ (y : Point). y.at) (sym e)
at_point (x ∷ xs) (suc i) p within e = at_point xs i p (omega arith) e

apart : (x : ℕ) (xs : List Point) (i : ℕ) → AllByRecursion (λ y. (x == y) ≡ false) (places_of xs) → i < length xs → place_at xs i ≢ x
apart x [] i h within = absurd (omega arith)
apart x (y ∷ ys) zero h within = λ e. grind (arith, nat_tests, h.0, e)
apart x (y ∷ ys) (suc i) h within = apart x ys i h.1 (omega arith)

-- no two points stand at one place
pub distinct_at : (points : List Point) (i j : ℕ) → IsDistinct (λ m n. m == n) (places_of points) → i < j → j < length points → place_at points i ≢ place_at points j
unfolding IsDistinct
distinct_at [] i j d low high = absurd (omega arith)
distinct_at (x ∷ xs) i zero d low high = absurd (omega arith)
distinct_at (x ∷ xs) zero (suc j) d low high = λ e. apart x.at xs j d.0 (omega arith) (sym e)
distinct_at (x ∷ xs) (suc i) (suc j) d low high = distinct_at xs i j d.1 (omega arith) (omega arith)

-- one place more is noted
pub noted : (points : List Point) (table new : List ℕ) (i : ℕ) (p : Point) → IsDistinct (λ m n. m == n) (places_of points) → i < length points → p ≡ get_or points i p → slice_index_or new p.at 0 ≡ i →
    ((other : ℕ) → other ≢ p.at → slice_index_or new other 0 ≡ slice_index_or table other 0) → ((j : ℕ) → j < i → slice_index_or table (place_at points j) 0 ≡ j) → (j : ℕ) → j < i + 1 → slice_index_or new (place_at points j) 0 ≡ j
noted points table new i p distinct within e here others h j below = by (nat_lt j i) refl
  where
    at : place_at points i ≡ p.at
    at = at_point points i p within e

    by : (b : Bool) → nat_lt j i ≡ b → slice_index_or new (place_at points j) 0 ≡ j
    by true t =
        let before : j < i = ltb-true j i t in
        let other : place_at points j ≢ p.at = λ same. distinct_at points j i distinct before within (same ∙ sym at) in
        others (place_at points j) other ∙ h j before
    by false t =
        let past : i ≤ j = ltb-false j i t in
        let same : j ≡ i = omega arith in
        ap (λ n. slice_index_or new (place_at points n) 0) same ∙ ap (λ n. slice_index_or new n 0) at ∙ here ∙ sym same

-- where a point is found, it alone can be the one that is listed
first_by : (a b c : Bool) (more : Bool) → a ≡ false → (a && b && c || more) ≡ more
first_by true b c more e = cc
first_by false b c more e = refl

none-listed : (points : List Point) (place slot : ℕ) (stack : List ℕ) → ((i : ℕ) → i < length points → place_at points i ≢ place) → is_listed points place slot stack ≡ false
none-listed [] place slot stack h = refl
none-listed (x ∷ xs) place slot stack h =
    let here : x.at ≢ place = h 0 (omega arith) in
    let no : (x.at == place) ≡ false = grind (arith, nat_tests) in
    first_by (x.at == place) (x.slot == slot) (same_numbers x.stack stack) (is_listed xs place slot stack) no
    ∙ none-listed xs place slot stack (λ i within. h (suc i) (omega arith))

or-none : (b c : Bool) → c ≡ false → (b || c) ≡ (b || false)
or-none b c e = ap (λ x. b || x) e

listed-by : (points : List Point) (i place slot : ℕ) (stack : List ℕ) → ((j : ℕ) → j < length points → place_at points j ≡ place → j ≡ i) → i < length points → is_listed points place slot stack ≡ is_listed (take 1 (drop i points)) place slot stack
listed-by [] i place slot stack only within = absurd (omega arith)
listed-by (x ∷ xs) zero place slot stack only within =
    or-none (is_point place slot stack x) (is_listed xs place slot stack)
    (none-listed xs place slot stack (λ j low e. let same : suc j ≡ 0 = only (suc j) (omega arith) e in absurd (omega arith)))
listed-by (x ∷ xs) (suc i) place slot stack only within =
    let other : x.at ≢ place = λ e. (let same : 0 ≡ suc i = only 0 (omega arith) e in absurd (omega arith)) in
    let no : (x.at == place) ≡ false = grind (arith, nat_tests) in
    first_by (x.at == place) (x.slot == slot) (same_numbers x.stack stack) (is_listed xs place slot stack) no
    ∙ listed-by xs i place slot stack (λ j low e. let same : suc j ≡ suc i = only (suc j) (omega arith) e in omega arith) (omega arith)

-- the point at a place is one
pub only : (points : List Point) (table : List ℕ) (i j : ℕ) → IsTable points table → i < length points → j < length points → place_at points j ≡ place_at points i → j ≡ i
only points table i j t within low e = sym (t j low) ∙ ap (λ n. slice_index_or table n 0) e ∙ t i within

pub listed_found : (points : List Point) (table : List ℕ) (i place slot : ℕ) (stack : List ℕ) → IsTable points table → IsFound points place (Some i) → is_listed points place slot stack ≡ is_listed (take 1 (drop i points)) place slot stack
listed_found points table i place slot stack t f = listed-by points i place slot stack (λ j low e. only points table i j t f.0 low (e ∙ sym f.1)) f.0

pub listed_none : (points : List Point) (place slot : ℕ) (stack : List ℕ) → IsFound points place None → is_listed points place slot stack ≡ false
listed_none points place slot stack f = none-listed points place slot stack f
