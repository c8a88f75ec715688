-- The entries of a slot that is inside the aborts of a stack of lines.
use Rattle.std.proofs.Common.{◌≡◌, ◌<◌, ℕ, zero, suc, ◌==◌, Bool, true, false, ◌||◌, ◌&&◌, List, [], ◌∷◌, map, length, take, drop, get_or, slice_get, slice_index_or, Some, None, refl, sym, ap, ◌∙◌, subst, arith}
use Rattle.std.specs.List.{AllByRecursion}
use Rattle.std.proofs.lemmas.Bool.Decides.{nat_tests}
use Rattle.std.proofs.lemmas.Option.{none-some, same_Some}
use Rattle.mb_pfu.specs.declared.parts.Watch.{Watch}
use Rattle.mb_pfu.specs.Rows.{relief, relief_with, renewed}
use Rattle.mb_pfu.specs.Unit.{fresh}
use Rattle.pt_image.specs.declared.AbortLine.{AbortLine}
use Rattle.pt_image.specs.declared.Point.{Point}
use Rattle.pt_image.specs.declared.Parts.{Parts}
use Rattle.pt_image.specs.Ranges.{IsPoint}
use Rattle.pt_image.specs.Listed.{is_point, is_listed, same_numbers}
use Rattle.mb_isa.specs.Free.{numbers_of, IsOfLine, AreOfLines}
use Rattle.tk_walk.specs.Listing.{IsTable, IsFound}
use Rattle.tk_walk.specs.Building.{line_at, entries}
use Rattle.tk_walk.proofs.Listings.{listed_found, at_point}

-- a list read at a place
get-there : (xs : List AbortLine) (j : ℕ) (d : AbortLine) → j < length xs → slice_get xs j ≡ Some (slice_index_or xs j d)
get-there [] j d h = absurd (omega arith)
get-there (x ∷ xs) zero d h = refl
get-there (x ∷ xs) (suc j) d h = get-there xs j d (omega arith)

get-is : (xs : List AbortLine) (j : ℕ) (d x : AbortLine) → slice_get xs j ≡ Some x → slice_index_or xs j d ≡ x
get-is [] j d x h = absurd (none-some x h)
get-is (y ∷ xs) zero d x h = same_Some y x h
get-is (y ∷ xs) (suc j) d x h = get-is xs j d x h

pub numbers-entries : (image : Parts) (stack : List ℕ) → numbers_of (entries image stack) ≡ stack
numbers-entries image [] = refl
numbers-entries image (j ∷ stack) = ap (λ (ns : List ℕ). j ∷ ns) (numbers-entries image stack)

pub relief-entries : (image : Parts) (stack : List ℕ) → relief (entries image stack) ≡ None
relief-entries image [] = refl
relief-entries image (j ∷ stack) = ap (relief_with (fresh j (line_at image j).weak (line_at image j).cond (line_at image j).handler)) (relief-entries image stack)

pub entries-of-lines : (image : Parts) (stack : List ℕ) → AllByRecursion (λ j. j < length image.aborts) stack → AreOfLines image (entries image stack)
entries-of-lines image [] h = tt
entries-of-lines image (j ∷ stack) h = (get-there image.aborts j (record { weak = false; cond = 0; handler = 0 }) h.0, entries-of-lines image stack h.1)

-- an entry of a line, but for what is fired, aged or due
renewed-line : (image : Parts) (w : Watch) → IsOfLine image w → renewed w ≡ renewed (fresh w.entry.number (line_at image w.entry.number).weak (line_at image w.entry.number).cond (line_at image w.entry.number).handler)
renewed-line image w h =
    ap (λ (l : AbortLine). renewed (fresh w.entry.number l.weak l.cond l.handler)) (sym (get-is image.aborts w.entry.number (record { weak = false; cond = 0; handler = 0 }) (record { weak = w.entry.weak; cond = w.entry.cond; handler = w.entry.handler }) h))

pub renewed-lines : (image : Parts) (ws : List Watch) → AreOfLines image ws → map renewed ws ≡ map renewed (entries image (numbers_of ws))
renewed-lines image [] h = refl
renewed-lines image (w ∷ ws) h = λ i. renewed-line image w h.0 i ∷ renewed-lines image ws h.1 i

-- the point that is found
and-true : (a b : Bool) → (a && b) ≡ true → (a ≡ true) × (b ≡ true)
and-true true true h = (refl, refl)
and-true true false h = cc
and-true false b h = cc

or-false : (a : Bool) → (a || false) ≡ true → a ≡ true
or-false true h = refl
or-false false h = cc

same-of : (a b : List ℕ) → same_numbers a b ≡ true → a ≡ b
same-of [] [] h = refl
same-of [] (y ∷ ys) h = cc
same-of (x ∷ xs) [] h = cc
same-of (x ∷ xs) (y ∷ ys) h =
    let both = and-true (x == y) (same_numbers xs ys) h in
    let same : x ≡ y = (let t : (x == y) ≡ true = both.0 in grind (arith, nat_tests)) in
    λ i. same i ∷ same-of xs ys both.1 i

same-self : (a : List ℕ) → same_numbers a a ≡ true
same-self [] = refl
same-self (x ∷ xs) = let e : (x == x) ≡ true = grind (arith, nat_tests) in rw e (same-self xs)

one-point : (points : List Point) (i : ℕ) (p : Point) → i < length points → p ≡ get_or points i p → take 1 (drop i points) ≡ p ∷ []
one-point [] i p within e = absurd (omega arith)
one-point (x ∷ xs) zero p within e = ap (λ (y : Point). y ∷ []) (sym e)
one-point (x ∷ xs) (suc i) p within e = one-point xs i p (omega arith) e

-- the point at a place has the slot and the stack with which one is listed there
pub listed-one : (points : List Point) (table : List ℕ) (i place slot : ℕ) (numbers : List ℕ) (p : Point) → IsTable points table → IsFound points place (Some i) → p ≡ get_or points i p → is_listed points place slot numbers ≡ true →
    (p.slot ≡ slot) × (p.stack ≡ numbers)
listed-one points table i place slot numbers p t f e h =
    let alone : is_listed (p ∷ []) place slot numbers ≡ true = sym (ap (λ (ps : List Point). is_listed ps place slot numbers) (one-point points i p f.0 e)) ∙ sym (listed_found points table i place slot numbers t f) ∙ h in
    let here = or-false (is_point place slot numbers p) alone in
    let parts = and-true (p.at == place && p.slot == slot) (same_numbers p.stack numbers) here in
    let left = and-true (p.at == place) (p.slot == slot) parts.0 in
    ((let t' : (p.slot == slot) ≡ true = left.1 in grind (arith, nat_tests)), same-of p.stack numbers parts.1)

pub listed-there : (points : List Point) (table : List ℕ) (i place : ℕ) (p : Point) → IsTable points table → IsFound points place (Some i) → p ≡ get_or points i p → is_listed points place p.slot p.stack ≡ true
listed-there points table i place p t f e =
    let at : p.at ≡ place = sym (at_point points i p f.0 e) ∙ f.1 in
    let a : (p.at == place) ≡ true = grind (arith, nat_tests) in
    let b : (p.slot == p.slot) ≡ true = grind (arith, nat_tests) in
    let alone : is_listed (p ∷ []) place p.slot p.stack ≡ true = rw (a, b, same-self p.stack) refl in
    listed_found points table i place p.slot p.stack t f ∙ ap (λ (ps : List Point). is_listed ps place p.slot p.stack) (one-point points i p f.0 e) ∙ alone

-- what all members of a list are, one that was read is
pub point-is : (P : Point → Type 0) (points : List Point) (i : ℕ) (p : Point) → AllByRecursion P points → i < length points → p ≡ get_or points i p → P p
point-is P [] i p h within e = absurd (omega arith)
point-is P (x ∷ xs) zero p h within e = subst P (sym e) h.0
point-is P (x ∷ xs) (suc i) p h within e = point-is P xs i p h.1 (omega arith) e

-- the numbers of its stack are those of abort lines
pub lines-of : (image : Parts) (points : List Point) (i : ℕ) (p : Point) → AllByRecursion (IsPoint image) points → i < length points → p ≡ get_or points i p → AllByRecursion (λ j. j < length image.aborts) p.stack
lines-of image points i p h within e = (point-is (IsPoint image) points i p h within e).3
