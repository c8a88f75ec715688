-- Tables by place say what is listed.
use Rattle.std.proofs.Common.{◌≡◌, ◌≢◌, ℕ, suc, zero, ◌+◌, ◌-◌, ◌<◌, ◌≤◌, ◌==◌, ◌||◌, ◌&&◌, Bool, true, false, List, [], ◌∷◌, length, map, take, drop, Option, Some, None, refl, sym, ap, ◌∙◌, arith, get_or, eqb, subst, replicate, ◌⊎◌, inl, inr}
use Rattle.std.specs.List.{All, IsDistinct, list_any}
use Rattle.std.proofs.Math.ListN.{set}
use Rattle.std.proofs.Math.Seq.{drop-cons}
use Rattle.std.proofs.lemmas.List.{get_or-map, length-map, length-set, get_or-set_same, get_or-set_other}
use Rattle.std.proofs.lemmas.List.Folds.{list_any_none, list_any_at}
use Rattle.std.proofs.lemmas.List.Elements.{All-from_get_or, All-get_or}
use Rattle.std.proofs.lemmas.Map.Keys.{apart_from_distinct}
use Rattle.std.proofs.lemmas.Bool.Decides.{nat_tests}
use Rattle.pt_image.specs.declared.image.Point.{Point}
use Rattle.pt_image.specs.Listed.{is_listed, is_point, same_numbers}
use Rattle.pt_image.specs.Ranges.{places_of}
use Rattle.mb_pfu.proofs.Cases.{split}
use Rattle.mb_core.specs.Tables.{blank, point_of, listed_at, IsTable}

same : (m n : ℕ) → (m == n) ≡ true → m ≡ n
same m n h = grind (arith, nat_tests)

apart : (m n : ℕ) → (m == n) ≡ false → m ≢ n
apart m n h = grind (arith, nat_tests)

some-none : {X : Type 0} {o : Option X} {x : X} → o ≡ Some x → o ≡ None → ⊥
some-none h e = cc

none-some : {X : Type 0} {x : X} → None ≡ Some x → ⊥
none-some h = cc

or-false : (b : Bool) → (b || false) ≡ b
or-false true = refl
or-false false = refl

none-by : (place : ℕ) (size : ℕ) → listed_at (replicate size None) place ≡ None
none-by place zero = refl
none-by zero (suc size) = refl
none-by (suc place) (suc size) = none-by place size

none-at : (size place : ℕ) → listed_at (replicate size None) place ≡ None
none-at size place = none-by place size

-- a point at another place isn't the one
elsewhere : (p : Point) (place slot : ℕ) (stack : List ℕ) → (p.at == place) ≡ false → is_point place slot stack p ≡ false
elsewhere p place slot stack h = rw h refl

there-at : (points : List Point) (table : List (Option ℕ)) → IsTable points table → (place i : ℕ) → i < length points → (point_of points i).at ≡ place → listed_at table place ≡ Some i
there-at points table t place i h e = let P : ℕ → Type 0 = λ q. listed_at table q ≡ Some i in subst P e (t.there i h)

pub absent : (points : List Point) (table : List (Option ℕ)) (place slot : ℕ) (stack : List ℕ) → IsTable points table → listed_at table place ≡ None → is_listed points place slot stack ≡ false
absent points table place slot stack t none =
    list_any_none (is_point place slot stack) points
    (All-from_get_or (λ p. is_point place slot stack p ≡ false) points blank
    (λ j h. split ((point_of points j).at == place)
    (λ yes. let found : listed_at table place ≡ Some j = there-at points table t place j h (same _ _ yes) in absurd (some-none found none))
    (λ no. elsewhere (point_of points j) place slot stack no)))

-- the point at a place decides
pub present : (points : List Point) (table : List (Option ℕ)) (place slot i : ℕ) (stack : List ℕ) → IsTable points table → listed_at table place ≡ Some i →
    is_listed points place slot stack ≡ is_point place slot stack (point_of points i)
present points table place slot i stack t some =
    let within : i < length points = (t.only place i some).0 in
    split (is_point place slot stack (point_of points i))
    (λ yes. list_any_at (is_point place slot stack) points i blank within yes ∙ sym yes)
    (λ no.
    list_any_none (is_point place slot stack) points
    (All-from_get_or (λ p. is_point place slot stack p ≡ false) points blank
    (λ j h. split ((point_of points j).at == place)
    (λ here.
    let found : listed_at table place ≡ Some j = there-at points table t place j h (same _ _ here) in
    let one : i ≡ j = cc in
    let P : ℕ → Type 0 = λ n. is_point place slot stack (point_of points n) ≡ false in
    subst P one no)
    (λ other. elsewhere (point_of points j) place slot stack other)))
    ∙ sym no)

-- a list of one point
pub alone : (points : List Point) (place slot i : ℕ) (stack : List ℕ) → i < length points → is_listed (take (i + 1 - i) (drop i points)) place slot stack ≡ is_point place slot stack (point_of points i)
alone points place slot i stack h =
    let e : i + 1 - i ≡ 1 = omega arith in
    rw (e, drop-cons points i blank) (or-false (is_point place slot stack (point_of points i)))

-- the table of the first k points
pub record IsPart (k : ℕ) (points : List Point) (table : List (Option ℕ)) : Type 0 where
  pub there : (i : ℕ) → i < k → listed_at table (point_of points i).at ≡ Some i
  pub only : (place i : ℕ) → listed_at table place ≡ Some i → (i < k) × ((point_of points i).at ≡ place)

pub empty : (size : ℕ) (points : List Point) → IsPart 0 points (replicate size None)
empty size points = record { there = λ i h. absurd (omega arith); only = λ place i e. absurd (none-some (sym (none-at size place) ∙ e)) }

apart-at : (points : List Point) (j k : ℕ) → IsDistinct eqb (places_of points) → j < k → k < length points → (point_of points j).at ≢ (point_of points k).at
apart-at points j k distinct less within =
    let count : length (places_of points) ≡ length points = length-map points (λ (x : Point). x.at) in
    let e : eqb (get_or (places_of points) j 0) (get_or (places_of points) k 0) ≡ false = apart_from_distinct eqb (places_of points) j k 0 distinct less (omega arith) in
    apart _ _ (rw (get_or-map (λ (x : Point). x.at) points j blank 0 (omega arith), get_or-map (λ (x : Point). x.at) points k blank 0 within) at e)

more-there : (k : ℕ) (points : List Point) (table : List (Option ℕ)) → IsPart k points table → IsDistinct eqb (places_of points) → k < length points → (point_of points k).at < length table →
    (i : ℕ) → i < k + 1 → (i == k) ≡ true ⊎ (i == k) ≡ false → listed_at (set table (point_of points k).at (Some k)) (point_of points i).at ≡ Some i
more-there k points table part distinct within room i h (inl here) =
    let e : i ≡ k = same i k here in
    let P : ℕ → Type 0 = λ n. listed_at (set table (point_of points k).at (Some k)) (point_of points n).at ≡ Some n in
    subst P (sym e) (get_or-set_same table (point_of points k).at (Some k) None room)
more-there k points table part distinct within room i h (inr other) =
    let ne : i ≢ k = apart i k other in
    let less : i < k = omega arith in
    get_or-set_other table (point_of points k).at (point_of points i).at (Some k) None (apart-at points i k distinct less within) ∙ part.there i less

more-only : (k : ℕ) (points : List Point) (table : List (Option ℕ)) → IsPart k points table → (point_of points k).at < length table →
    (place i : ℕ) → listed_at (set table (point_of points k).at (Some k)) place ≡ Some i → (place == (point_of points k).at) ≡ true ⊎ (place == (point_of points k).at) ≡ false → (i < k + 1) × ((point_of points i).at ≡ place)
more-only k points table part room place i e (inl at) =
    let here : place ≡ (point_of points k).at = same place (point_of points k).at at in
    let P : ℕ → Type 0 = λ n. listed_at (set table (point_of points k).at (Some k)) n ≡ Some i in
    let e' : Some k ≡ Some i = sym (get_or-set_same table (point_of points k).at (Some k) None room) ∙ subst P here e in
    let one : k ≡ i = cc in
    let Q : ℕ → Type 0 = λ n. (n < k + 1) × ((point_of points n).at ≡ place) in
    subst Q one (omega arith, sym here)
more-only k points table part room place i e (inr other) =
    let old : listed_at table place ≡ Some i = sym (get_or-set_other table (point_of points k).at place (Some k) None (apart place (point_of points k).at other)) ∙ e in
    let o : (i < k) × ((point_of points i).at ≡ place) = part.only place i old in
    (omega arith, o.1)

either : (b : Bool) → b ≡ true ⊎ b ≡ false
either true = inl refl
either false = inr refl

-- one more point
pub more : (k : ℕ) (points : List Point) (table : List (Option ℕ)) → IsPart k points table → IsDistinct eqb (places_of points) → k < length points → (point_of points k).at < length table →
    IsPart (k + 1) points (set table (point_of points k).at (Some k))
more k points table part distinct within room = record {
  there = λ i h. more-there k points table part distinct within room i h (either (i == k));
  only = λ place i e. more-only k points table part room place i e (either (place == (point_of points k).at));
}

-- what a list has doesn't depend on what stands beyond it
pub same-read : (points : List Point) (i : ℕ) (d e : Point) → i < length points → get_or points i d ≡ get_or points i e
same-read [] i d e h = absurd (omega arith)
same-read (p ∷ points) zero d e h = refl
same-read (p ∷ points) (suc i) d e h = same-read points i d e (omega arith)

-- the same with the point as a loop reads it
pub more-read : (k size : ℕ) (points : List Point) (table : List (Option ℕ)) (p : Point) → p ≡ point_of points k → length table ≡ size → IsPart k points table → IsDistinct eqb (places_of points) →
    All (λ (x : Point). x.at < size) points → k < length points → IsPart (k + 1) points (set table p.at (Some k))
more-read k size points table p e count part distinct below within =
    let low : (point_of points k).at < size = All-get_or (λ (x : Point). x.at < size) points k blank within below in
    rw e (more k points table part distinct within (omega arith))

pub whole : (points : List Point) (table : List (Option ℕ)) → IsPart (length points) points table → IsTable points table
whole points table part = record { there = part.there; only = part.only }
