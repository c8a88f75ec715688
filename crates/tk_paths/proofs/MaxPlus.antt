-- A greatest number is one of those that it is the greatest of, and a sum has its parts.
use Rattle.std.proofs.Common.{◌≡◌, ◌⊎◌, ◌+◌, ℕ, zero, suc, nat_le, Bool, true, false, if◌then◌else◌, Option, Some, None, refl, sym, subst, inl, inr, ⊎_elim, arith}
use Rattle.std.proofs.lemmas.Option.{none-some, same_Some}
use Rattle.tk_paths.specs.declared.view.Side.{Side}
use Rattle.tk_paths.specs.declared.view.Side.TheVariants.{ToPause, ToEnd}
use Rattle.tk_paths.specs.Sums.{plus, greater, or_zero, and_more, all_ends, most, most_paused, resumed_ends, resumed_most, resumed_paused}
use Rattle.tk_paths.specs.Reached.{both_sides, both_ends}

pub greater-is : (a b : Option ℕ) (n : ℕ) → greater a b ≡ Some n → (a ≡ Some n) ⊎ (b ≡ Some n)
greater-is None b n h = inr h
greater-is (Some x) None n h = inl h
greater-is (Some x) (Some y) n h = by (nat_le x y) h
  where
    by : (c : Bool) → Some (if c then y else x) ≡ Some n → (Some x ≡ Some n) ⊎ (Some y ≡ Some n)
    by true e = inr e
    by false e = inl e

pub plus-is : (a b : Option ℕ) (n : ℕ) → plus a b ≡ Some n → (x y : ℕ) × (a ≡ Some x) × (b ≡ Some y) × (n ≡ x + y)
plus-is None b n h = absurd (none-some n h)
plus-is (Some x) None n h = absurd (none-some n h)
plus-is (Some x) (Some y) n h = (x, y, refl, refl, sym (same_Some (x + y) n h))

-- a charge and a number
pub more-is : (c : ℕ) (o : Option ℕ) (n : ℕ) → plus (Some c) o ≡ Some n → (m : ℕ) × (o ≡ Some m) × (n ≡ c + m)
more-is c None n h = absurd (none-some n h)
more-is c (Some m) n h = (m, refl, sym (same_Some (c + m) n h))

module _ (number : Side → ℕ → Option ℕ) where
  -- the sums of one number a child
  abbrev pub Sums : ℕ → ℕ → Side → ℕ → Type 0
  Sums c zero side n = (side ≡ ToEnd) × (n ≡ 0)
  Sums c (suc count) side n = (x y : Side) × (p q : ℕ) × (number x c ≡ Some p) × Sums (c + 1) count y q × (side ≡ both_sides x y) × (n ≡ p + q)

  pub all-ends-is : (count c g : ℕ) → all_ends number c count ≡ Some g → Sums c count ToEnd g
  all-ends-is zero c g h = (refl, sym (same_Some 0 g h))
  all-ends-is (suc count) c g h =
      let p = plus-is (number ToEnd c) (all_ends number (c + 1) count) g h in
      (ToEnd, ToEnd, p.0, p.1, p.2, all-ends-is count (c + 1) p.1 p.3, refl, p.4)

  one-of : (c n : ℕ) → greater (number ToPause c) (number ToEnd c) ≡ Some n → (x : Side) × (number x c ≡ Some n)
  one-of c n h = ⊎_elim (λ e. (ToPause, e)) (λ e. (ToEnd, e)) (greater-is (number ToPause c) (number ToEnd c) n h)

  pub most-is : (count c g : ℕ) → most number c count ≡ Some g → (y : Side) × Sums c count y g
  most-is zero c g h = (ToEnd, (refl, sym (same_Some 0 g h)))
  most-is (suc count) c g h =
      let p = plus-is (greater (number ToPause c) (number ToEnd c)) (most number (c + 1) count) g h in
      let x = one-of c p.0 p.2 in
      let r = most-is count (c + 1) p.1 p.3 in
      (both_sides x.0 r.0, (x.0, r.0, p.0, p.1, x.1, r.1, refl, p.4))

  pub most-paused-is : (count c g : ℕ) → most_paused number c count ≡ Some g → Sums c count ToPause g
  most-paused-is zero c g h = absurd (none-some g h)
  most-paused-is (suc count) c g h =
      let a = plus (number ToPause c) (most number (c + 1) count) in
      let b = plus (number ToEnd c) (most_paused number (c + 1) count) in
      ⊎_elim
      (λ e.
      let p = plus-is (number ToPause c) (most number (c + 1) count) g e in
      let r = most-is count (c + 1) p.1 p.3 in
      (ToPause, r.0, p.0, p.1, p.2, r.1, refl, p.4))
      (λ e.
      let p = plus-is (number ToEnd c) (most_paused number (c + 1) count) g e in
      (ToEnd, ToPause, p.0, p.1, p.2, most-paused-is count (c + 1) p.1 p.3, refl, p.4))
      (greater-is a b g h)

  -- the sums in which a child gives a number, or had ended before
  abbrev pub Gives : ℕ → Option Side → ℕ → Type 0
  Gives c None n = n ≡ 0
  Gives c (Some side) n = number side c ≡ Some n

  abbrev pub Given : ℕ → ℕ → Option Side → ℕ → Type 0
  Given c zero end n = (end ≡ None) × (n ≡ 0)
  Given c (suc count) end n = (x y : Option Side) × (p q : ℕ) × Gives c x p × Given (c + 1) count y q × (end ≡ both_ends x y) × (n ≡ p + q)

  -- where no child has a number to its end, all had ended before
  pub none-given : (count c : ℕ) → resumed_ends number c count ≡ None → Given c count None 0
  none-given zero c h = (refl, refl)
  none-given (suc count) c h = by (number ToEnd c) (resumed_ends number (c + 1) count) h (λ e. none-given count (c + 1) e) refl
    where
      by : (a b : Option ℕ) → and_more a b ≡ None → (b ≡ None → Given (c + 1) count None 0) → resumed_ends number (c + 1) count ≡ b → Given c (suc count) None 0
      by None b e later same = (None, None, 0, 0, refl, later e, refl, refl)
      by (Some v) b e later same = absurd (none-some (v + or_zero b) (sym e))

  pub ends-given : (count c g : ℕ) → resumed_ends number c count ≡ Some g → Given c count (Some ToEnd) g
  ends-given zero c g h = absurd (none-some g h)
  ends-given (suc count) c g h =
      by (number ToEnd c) refl (resumed_ends number (c + 1) count) h (λ e. none-given count (c + 1) e) (λ w e. ends-given count (c + 1) w e) refl
    where
      by : (a : Option ℕ) → number ToEnd c ≡ a → (b : Option ℕ) → and_more a b ≡ Some g → (b ≡ None → Given (c + 1) count None 0) →
          ((w : ℕ) → b ≡ Some w → Given (c + 1) count (Some ToEnd) w) → resumed_ends number (c + 1) count ≡ b → Given c (suc count) (Some ToEnd) g
      by None e b k none some same = (None, Some ToEnd, 0, g, refl, some g k, refl, omega arith)
      by (Some v) e None k none some same = let z = same_Some (v + 0) g k in (Some ToEnd, None, v, 0, e, none refl, refl, sym z)
      by (Some v) e (Some w) k none some same = let z = same_Some (v + w) g k in (Some ToEnd, Some ToEnd, v, w, e, some w refl, refl, sym z)

  pub most-given : (count c : ℕ) → (end : Option Side) × Given c count end (resumed_most number c count)
  most-given zero c = (None, (refl, refl))
  most-given (suc count) c =
      let r = most-given count (c + 1) in
      by (greater (number ToPause c) (number ToEnd c)) refl r.0 r.1
    where
      by : (o : Option ℕ) → greater (number ToPause c) (number ToEnd c) ≡ o → (y : Option Side) → Given (c + 1) count y (resumed_most number (c + 1) count) →
          (end : Option Side) × Given c (suc count) end (or_zero o + resumed_most number (c + 1) count)
      by None e y r = (y, (None, y, 0, resumed_most number (c + 1) count, refl, r, refl, refl))
      by (Some v) e y r = let x = one-of c v e in (both_ends (Some x.0) y, (Some x.0, y, v, resumed_most number (c + 1) count, x.1, r, refl, refl))

  pub pauses-given : (count c g : ℕ) → resumed_paused number c count ≡ Some g → Given c count (Some ToPause) g
  pauses-given zero c g h = absurd (none-some g h)
  pauses-given (suc count) c g h =
      let m = resumed_most number (c + 1) count in
      ⊎_elim
      (λ e.
      let p = plus-is (number ToPause c) (Some m) g e in
      let r = most-given count (c + 1) in
      let G : ℕ → Type 0 = Given (c + 1) count r.0 in
      (Some ToPause, r.0, p.0, p.1, p.2, subst G (same_Some m p.1 p.3) r.1, pausing r.0, p.4))
      (λ e.
      let p = plus-is (Some (or_zero (number ToEnd c))) (resumed_paused number (c + 1) count) g e in
      let z : or_zero (number ToEnd c) ≡ p.0 = same_Some (or_zero (number ToEnd c)) p.0 p.2 in
      let sum = p.4 in
      by (number ToEnd c) refl p.1 (pauses-given count (c + 1) p.1 p.3) (omega (arith, sum, z)))
      (greater-is (plus (number ToPause c) (Some m)) (plus (Some (or_zero (number ToEnd c))) (resumed_paused number (c + 1) count)) g h)
    where
      pausing : (y : Option Side) → Some ToPause ≡ both_ends (Some ToPause) y
      pausing None = refl
      pausing (Some y) = refl

      by : (o : Option ℕ) → number ToEnd c ≡ o → (q : ℕ) → Given (c + 1) count (Some ToPause) q → g ≡ or_zero o + q → Given c (suc count) (Some ToPause) g
      by None e q r sum = (None, Some ToPause, 0, q, refl, r, refl, sum)
      by (Some v) e q r sum = (Some ToEnd, Some ToPause, v, q, e, r, refl, sum)
