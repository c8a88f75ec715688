-- Where what slots and the children of forks come to is small, so is what it is made of.
use Rattle.std.proofs.Common.{◌≡◌, ℕ, zero, suc, ◌+◌, ◌-◌, ◌<◌, ◌≤◌, ◌==◌, nat_le, true, false, if◌then◌else◌, List, [], ◌∷◌, replicate, ◌++◌, drop, length, get_or, Option, Some, None, sym, ap, ◌∙◌, subst, arith}
use mathlib.Core.Path.{ap₂}
use Rattle.std.proofs.lemmas.Bool.Decides.{nat_tests}
use Rattle.std.specs.List.{AllByRecursion}
use Rattle.pt_image.specs.declared.Point.{Point}
use Rattle.pt_image.specs.declared.Parts.{Parts}
use Rattle.tk_cert.specs.declared.cert.Line.{Line}
use Rattle.tk_paths.specs.declared.view.Side.{Side}
use Rattle.tk_paths.specs.declared.view.Side.TheVariants.{ToPause, ToEnd}
use Rattle.tk_paths.specs.Sums.{plus, greater, or_zero, and_more, resumed_ends, resumed_most, resumed_paused}
use Rattle.tk_paths.specs.Walks.{most_cycles}
use Rattle.tk_paths.specs.Greatest.{best}
use Rattle.tk_paths.specs.Faults.{IsSmall}
use Rattle.tk_paths.proofs.Rooms.{small-left, small-right, small-plain}
use Rattle.tk_paths.specs.Told.{resumption, slots_from}
use Rattle.tk_paths.specs.Waits.{IsSmallWait, AreSmallWaits, AreSmallSlots}
use Rattle.tk_cert.specs.declared.cert.CertParts.{CertParts}
use Rattle.tk_paths.specs.Greatest.{num, tested}
use Rattle.tk_paths.specs.Kinds.{abort_at}
use Rattle.tk_paths.specs.Acceptance.{value}
use Rattle.tk_paths.proofs.Bests.{best_here, best_past}

greater-most : (a b : ℕ) → a ≤ (if nat_le a b then b else a)
greater-most a b = grind (arith, nat_tests)

greater-more : (a b : ℕ) → b ≤ (if nat_le a b then b else a)
greater-more a b = grind (arith, nat_tests)

both-less : (a b n : ℕ) → a ≤ n → b ≤ n → (if nat_le a b then b else a) ≤ n
both-less a b n f g = grind (arith, nat_tests)

or-left : (a b : Option ℕ) → or_zero a ≤ or_zero (greater a b)
or-left None b = omega arith
or-left (Some x) None = omega arith
or-left (Some x) (Some y) = greater-most x y

or-right : (a b : Option ℕ) → or_zero b ≤ or_zero (greater a b)
or-right None b = omega arith
or-right (Some x) None = omega arith
or-right (Some x) (Some y) = greater-more x y

or-both : (a b : Option ℕ) (n : ℕ) → or_zero a ≤ n → or_zero b ≤ n → or_zero (greater a b) ≤ n
or-both None b n f g = g
or-both (Some x) None n f g = f
or-both (Some x) (Some y) n f g = both-less x y n f g

or-plus : (a b : Option ℕ) → or_zero (plus a b) ≤ or_zero a + or_zero b
or-plus None b = omega arith
or-plus (Some x) None = omega arith
or-plus (Some x) (Some y) = omega arith

or-and : (a b : Option ℕ) → or_zero (and_more a b) ≤ or_zero a + or_zero b
or-and None b = omega arith
or-and (Some x) b = omega arith

small-zero : (o : Option ℕ) → or_zero o ≤ most_cycles → IsSmall o
small-zero None h = tt
small-zero (Some n) h = h

-- ---- sums over children

module _ (f : Side → ℕ → Option ℕ) where
  ends-less : (n c : ℕ) → or_zero (resumed_ends f c n) ≤ resumed_most f c n
  ends-less zero c = omega arith
  ends-less (suc n) c =
      let a = or-and (f ToEnd c) (resumed_ends f (c + 1) n) in
      let b = or-right (f ToPause c) (f ToEnd c) in
      let r = ends-less n (c + 1) in
      omega (arith, a, b, r)

  paused-less : (n c : ℕ) → or_zero (resumed_paused f c n) ≤ resumed_most f c n
  paused-less zero c = omega arith
  paused-less (suc n) c =
      let m = resumed_most f (c + 1) n in
      let e = or_zero (f ToEnd c) in
      let a = or-plus (f ToPause c) (Some m) in
      let b = or-plus (Some e) (resumed_paused f (c + 1) n) in
      let p = or-left (f ToPause c) (f ToEnd c) in
      let q = or-right (f ToPause c) (f ToEnd c) in
      let r = paused-less n (c + 1) in
      or-both (plus (f ToPause c) (Some m)) (plus (Some e) (resumed_paused f (c + 1) n)) (resumed_most f c (suc n)) (omega (arith, a, p)) (omega (arith, b, q, r))

  -- the first child, and those behind it
  first-more : (c n : ℕ) → 1 ≤ n → or_zero (greater (f ToPause c) (f ToEnd c)) + resumed_most f (c + 1) (n - 1) ≡ resumed_most f c n
  first-more c n some = let e : suc (n - 1) ≡ n = omega (arith, some) in ap (resumed_most f c) e

  pub rest-small : (c n b : ℕ) → 1 ≤ n → resumed_most f c n ≤ b → resumed_most f (c + 1) (n - 1) ≤ b
  rest-small c n b some h = let e = first-more c n some in omega (arith, e, h)

  pub ends-small : (c n : ℕ) (end rest : Option ℕ) → 1 ≤ n → end ≡ f ToEnd c → rest ≡ resumed_ends f (c + 1) (n - 1) → resumed_most f c n ≤ most_cycles → IsSmall (and_more end rest)
  ends-small c n end rest some is told h =
      let e = first-more c n some in
      let a = or-and (f ToEnd c) (resumed_ends f (c + 1) (n - 1)) in
      let b = or-right (f ToPause c) (f ToEnd c) in
      let r = ends-less (n - 1) (c + 1) in
      subst IsSmall (sym (ap₂ and_more is told)) (small-zero (and_more (f ToEnd c) (resumed_ends f (c + 1) (n - 1))) (omega (arith, e, a, b, r, h)))

  pub most-small : (c n : ℕ) (here : Option ℕ) (rest : ℕ) → 1 ≤ n → here ≡ greater (f ToPause c) (f ToEnd c) → rest ≡ resumed_most f (c + 1) (n - 1) → resumed_most f c n ≤ most_cycles → or_zero here + rest ≤ most_cycles
  most-small c n here rest some is told h =
      let e = first-more c n some in
      let a = ap or_zero is in
      omega (arith, e, a, told, h)

  pub pause-small : (c n : ℕ) (p : Option ℕ) (others : ℕ) → 1 ≤ n → p ≡ f ToPause c → others ≡ resumed_most f (c + 1) (n - 1) → resumed_most f c n ≤ most_cycles → IsSmall (plus p (Some others))
  pause-small c n p others some is told h =
      let e = first-more c n some in
      let a = or-plus p (Some others) in
      let b = or-left (f ToPause c) (f ToEnd c) in
      let x = ap or_zero is in
      small-zero (plus p (Some others)) (omega (arith, e, a, b, x, told, h))

  pub end-small : (c n : ℕ) (p rest : Option ℕ) → 1 ≤ n → p ≡ f ToEnd c → rest ≡ resumed_paused f (c + 1) (n - 1) → resumed_most f c n ≤ most_cycles → IsSmall (plus (Some (or_zero p)) rest)
  end-small c n p rest some is told h =
      let e = first-more c n some in
      let a = or-plus (Some (or_zero p)) rest in
      let b = or-right (f ToPause c) (f ToEnd c) in
      let x = ap or_zero is in
      let y = ap or_zero told in
      let r = paused-less (n - 1) (c + 1) in
      small-zero (plus (Some (or_zero p)) rest) (omega (arith, e, a, b, x, y, r, h))

-- ---- points

-- behind the conditions of aborts
pub tested-inner : (image : Parts) (cert : CertParts) (costs : List ℕ) (side : Side) (i : ℕ) (stack : List ℕ) (rest : Option ℕ) → IsSmall (tested image cert costs side i stack rest) → IsSmall rest
tested-inner image cert costs side i [] rest h = h
tested-inner image cert costs side i (j ∷ stack) rest h =
    let strong = if (abort_at image j).weak then None else num image cert costs side i ((abort_at image j).handler) in
    let later = tested image cert costs side (i + 1) stack rest in
    tested-inner image cert costs side (i + 1) stack rest
    (small-right strong later (small-plain (value image cert costs ((abort_at image j).cond)) (greater strong later) h))

same-slot : (x y : ℕ) → x ≡ y → (x == y) ≡ true
same-slot x y e = grind (arith, nat_tests)

other-slot : (x y : ℕ) → (x ≡ y → ⊥) → (x == y) ≡ false
other-slot x y e = grind (arith, nat_tests)

point-at : (P : Point → Type 0) (points : List Point) (i : ℕ) (d : Point) → i < length points → AllByRecursion P points → P (get_or points i d)
point-at P [] i d h all = absurd (omega (arith, h))
point-at P (p ∷ points) zero d h all = all.0
point-at P (p ∷ points) (suc i) d h all = point-at P points i d (omega (arith, h)) all.1

-- a point here, of those of a slot
module _ (given : Point → Option ℕ) (s : ℕ) (points items : List Point) (i : ℕ) (p : Point) (same : items ≡ points) (h : i < length items) (is : p ≡ get_or items i p) where
  within : i < length points
  within = let e = ap length same in omega (arith, h, e)

  is-here : p ≡ get_or points i p
  is-here = is ∙ ap (λ l. get_or l i p) same

  own : p.slot ≡ s → ((get_or points i p).slot == s) ≡ true
  own e = same-slot ((get_or points i p).slot) s (ap (λ (x : Point). x.slot) (sym is-here) ∙ e)

  pub one-here : (most now x : Option ℕ) → p.slot ≡ s → now ≡ greater most x → x ≡ given p →
      greater most (best given s (drop i points)) ≡ best given s points → greater now (best given s (drop (i + 1) points)) ≡ best given s points
  one-here most now x e n g all =
      ap (λ m. greater m (best given s (drop (i + 1) points))) (n ∙ ap (greater most) (g ∙ ap given is-here)) ∙ best_here given s points i p most within (own e) ∙ all

  pub one-past : (most now : Option ℕ) → (p.slot ≡ s → ⊥) → now ≡ most →
      greater most (best given s (drop i points)) ≡ best given s points → greater now (best given s (drop (i + 1) points)) ≡ best given s points
  one-past most now e n all =
      let other : ((get_or points i p).slot == s) ≡ false =
      other-slot ((get_or points i p).slot) s (λ k. e (ap (λ (x : Point). x.slot) is-here ∙ k)) in
      ap₂ greater n (sym (best_past given s points i p within other)) ∙ all

  pub given-small : (most : Option ℕ) → p.slot ≡ s → greater most (best given s (drop i points)) ≡ best given s points → IsSmall (best given s points) → IsSmall (given p)
  given-small most e all small =
      let x = given (get_or points i p) in
      let rest = best given s (drop (i + 1) points) in
      let whole : IsSmall (greater (greater most x) rest) = subst IsSmall (sym (best_here given s points i p most within (own e) ∙ all)) small in
      let P : Point → Type 0 = λ q. IsSmall (given q) in
      subst P (sym is-here) (small-right most x (small-left (greater most x) rest whole))

  pub wait-small : (image : Parts) (pairs : List (Option ℕ × Option ℕ)) → p.slot ≡ s → AllByRecursion (λ (q : Point). q.slot ≡ s → IsSmallWait image pairs q) points →
      IsSmallWait image pairs p
  wait-small image pairs e all =
      let P : Point → Type 0 = λ q. q.slot ≡ s → IsSmallWait image pairs q in
      subst P (sym is-here) (point-at P points i p within all) e

-- ---- slots

pub slots-behind : (image : Parts) (costs : List ℕ) (lines : List Line) (s n : ℕ) → 1 ≤ n → AreSmallSlots image costs lines s n → AreSmallSlots image costs lines (s + 1) (n - 1)
unfolding AreSmallSlots
slots-behind image costs lines s n some h =
    let e : n ≡ suc (n - 1) = omega (arith, some) in
    let P : ℕ → Type 0 = λ k. AreSmallSlots image costs lines s k in
    (subst P e h).0

-- the slot itself, as these are known
pub slot-waits : (image : Parts) (costs : List ℕ) (lines : List Line) (s n : ℕ) (known seen : List (Option ℕ × Option ℕ)) → 1 ≤ n → seen ≡ known →
    known ≡ replicate (s + 1) (None, None) ++ slots_from image costs lines (s + 1) (n - 1) → AreSmallSlots image costs lines s n → AreSmallWaits image seen s
unfolding AreSmallSlots
slot-waits image costs lines s n known seen some same is h =
    let e : n ≡ suc (n - 1) = omega (arith, some) in
    let P : ℕ → Type 0 = λ k. AreSmallSlots image costs lines s k in
    let Q : List (Option ℕ × Option ℕ) → Type 0 = λ l. AreSmallWaits image l s in
    subst Q (sym (same ∙ is)) (subst P e h).1

pub slot-pause : (image : Parts) (costs : List ℕ) (lines : List Line) (s n : ℕ) (known seen : List (Option ℕ × Option ℕ)) → 1 ≤ n → seen ≡ known →
    known ≡ replicate (s + 1) (None, None) ++ slots_from image costs lines (s + 1) (n - 1) → AreSmallSlots image costs lines s n →
    IsSmall (resumption image costs lines seen s ToPause)
unfolding AreSmallSlots
slot-pause image costs lines s n known seen some same is h =
    let e : n ≡ suc (n - 1) = omega (arith, some) in
    let P : ℕ → Type 0 = λ k. AreSmallSlots image costs lines s k in
    let Q : List (Option ℕ × Option ℕ) → Type 0 = λ l. IsSmall (resumption image costs lines l s ToPause) in
    subst Q (sym (same ∙ is)) (subst P e h).2

pub slot-end : (image : Parts) (costs : List ℕ) (lines : List Line) (s n : ℕ) (known seen : List (Option ℕ × Option ℕ)) → 1 ≤ n → seen ≡ known →
    known ≡ replicate (s + 1) (None, None) ++ slots_from image costs lines (s + 1) (n - 1) → AreSmallSlots image costs lines s n →
    IsSmall (resumption image costs lines seen s ToEnd)
unfolding AreSmallSlots
slot-end image costs lines s n known seen some same is h =
    let e : n ≡ suc (n - 1) = omega (arith, some) in
    let P : ℕ → Type 0 = λ k. AreSmallSlots image costs lines s k in
    let Q : List (Option ℕ × Option ℕ) → Type 0 = λ l. IsSmall (resumption image costs lines l s ToEnd) in
    subst Q (sym (same ∙ is)) (subst P e h).3
