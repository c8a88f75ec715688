-- The numbers of a program's slots are the greatest: what a slot that waits comes to is told from later slots.
use Rattle.std.proofs.Common.{◌≡◌, ◌≤◌, ◌<◌, ◌+◌, ◌-◌, ◌++◌, ◌==◌, ℕ, zero, suc, Bool, true, false, if◌then◌else◌, List, [], ◌∷◌, length, replicate, slice_get, Option, Some, None, refl, sym, ap, ◌∙◌, subst, inl, inr, ⊎_elim, eqb-true, arith}
use Rattle.std.proofs.lemmas.Bool.{cases_lt}
use Rattle.mb_isa.specs.declared.Instr.{Instr}
use Rattle.mb_isa.specs.declared.Instr.TheVariants as instr
use Rattle.pt_image.specs.declared.Point.{Point}
use Rattle.pt_image.specs.declared.Parts.{Parts}
use Rattle.tk_cert.specs.declared.cert.Walk.{Walk}
use Rattle.tk_cert.specs.declared.cert.CertParts.{CertParts}
use Rattle.tk_paths.specs.declared.view.Side.{Side}
use Rattle.tk_paths.specs.declared.view.Side.TheVariants.{ToPause, ToEnd}
use Rattle.tk_paths.specs.Sums.{plus, greater, or_zero, and_more, resumed_ends, resumed_most, resumed_paused}
use Rattle.tk_paths.specs.Words.{instr_at}
use Rattle.tk_paths.specs.Acceptance.{on_side, resumed}
use Rattle.tk_paths.proofs.Lists.{IsAmong}
use Rattle.tk_paths.specs.Greatest.{where_some, best, num, resting, tested, paused, waited_by, waited}
use Rattle.tk_paths.specs.Programs.{Program, so_far, resumption, slots_from, slot_bounds, certificate}

-- numbers of children that are resumed, of two numberings that agree on them
module _ (f g : Side → ℕ → Option ℕ) where
  abbrev Alike : ℕ → ℕ → Type 0
  Alike c n = (side : Side) (x : ℕ) → c ≤ x → x < c + n → f side x ≡ g side x

  rest : (c n : ℕ) → Alike c (suc n) → Alike (c + 1) n
  rest c n h side x l u = h side x (omega (arith, l)) (omega (arith, u))

  ends-same : (n c : ℕ) → Alike c n → resumed_ends f c n ≡ resumed_ends g c n
  ends-same zero c h = refl
  ends-same (suc n) c h = ap (λ o. and_more o (resumed_ends f (c + 1) n)) (h ToEnd c (omega arith) (omega arith)) ∙ ap (and_more (g ToEnd c)) (ends-same n (c + 1) (rest c n h))

  most-same : (n c : ℕ) → Alike c n → resumed_most f c n ≡ resumed_most g c n
  most-same zero c h = refl
  most-same (suc n) c h =
      let p = h ToPause c (omega arith) (omega arith) in
      let e = h ToEnd c (omega arith) (omega arith) in
      ap (λ o. or_zero (greater o (f ToEnd c)) + resumed_most f (c + 1) n) p ∙ ap (λ o. or_zero (greater (g ToPause c) o) + resumed_most f (c + 1) n) e
      ∙ ap (λ m. or_zero (greater (g ToPause c) (g ToEnd c)) + m) (most-same n (c + 1) (rest c n h))

  paused-same : (n c : ℕ) → Alike c n → resumed_paused f c n ≡ resumed_paused g c n
  paused-same zero c h = refl
  paused-same (suc n) c h =
      let p = h ToPause c (omega arith) (omega arith) in
      let e = h ToEnd c (omega arith) (omega arith) in
      let r = rest c n h in
      let right = plus (Some (or_zero (f ToEnd c))) (resumed_paused f (c + 1) n) in
      ap (λ o. greater o right) (ap (λ o. plus o (Some (resumed_most f (c + 1) n))) p ∙ ap (λ m. plus (g ToPause c) (Some m)) (most-same n (c + 1) r))
      ∙ ap (greater (plus (g ToPause c) (Some (resumed_most g (c + 1) n))))
      (ap (λ o. plus (Some (or_zero o)) (resumed_paused f (c + 1) n)) e ∙ ap (plus (Some (or_zero (g ToEnd c)))) (paused-same n (c + 1) r))

pub get-past : {X : Type 0} (n c : ℕ) (x : X) (xs : List X) → n ≤ c → slice_get (replicate n x ++ xs) c ≡ slice_get xs (c - n)
get-past zero c x xs h = let e : c ≡ c - 0 = omega arith in ap (slice_get xs) e
get-past (suc n) zero x xs h = absurd (omega (arith, h))
get-past (suc n) (suc c) x xs h = let e : c - n ≡ suc c - suc n = omega arith in get-past n c x xs (omega (arith, h)) ∙ ap (slice_get xs) e

-- where no point of a list has a slot, nothing is given
best-none : (given : Point → Option ℕ) (s : ℕ) (points : List Point) → ((p : Point) → IsAmong p points → p.slot ≡ s → ⊥) → best given s points ≡ None
best-none given s [] h = refl
best-none given s (x ∷ points) h = by (x.slot == s) refl (best-none given s points (λ p k. h p (inr k)))
  where
    by : (b : Bool) → (x.slot == s) ≡ b → best given s points ≡ None → (if b then greater (given x) (best given s points) else best given s points) ≡ None
    by true e r = absurd (h x (inl refl) (eqb-true x.slot s e))
    by false e r = r

best-same : (f g : Point → Option ℕ) (s : ℕ) (points : List Point) → ((p : Point) → IsAmong p points → p.slot ≡ s → f p ≡ g p) → best f s points ≡ best g s points
best-same f g s [] h = refl
best-same f g s (x ∷ points) h = by (x.slot == s) refl (best-same f g s points (λ p k. h p (inr k)))
  where
    by : (b : Bool) → (x.slot == s) ≡ b → best f s points ≡ best g s points → (if b then greater (f x) (best f s points) else best f s points) ≡ (if b then greater (g x) (best g s points) else best g s points)
    by true e r = ap (λ o. greater o (best f s points)) (h x (inl refl) (eqb-true x.slot s e)) ∙ ap (greater (g x)) r
    by false e r = r

module _ (image : Parts) (program : Program) (costs : List ℕ) (walk : Walk) where
  abbrev C : CertParts
  C = certificate image costs program walk

  abbrev Pairs : Type 0
  Pairs = List (Option ℕ × Option ℕ)

  abbrev known : ℕ → ℕ → Pairs
  known s n = replicate (s + 1) (None, None) ++ slots_from image costs program (s + 1) n

  abbrev pair_at : ℕ → ℕ → Option ℕ × Option ℕ
  pair_at c m = (resumption image costs program (known c m) c ToPause, resumption image costs program (known c m) c ToEnd)

  -- the pair of a slot
  slots-get : (n s i : ℕ) → i < n → (m : ℕ) × (slice_get (slots_from image costs program s n) i ≡ Some (pair_at (s + i) m)) × (s + i + 1 + m ≡ s + n)
  slots-get zero s i h = absurd (omega (arith, h))
  slots-get (suc n) s zero h =
      let P : ℕ → Type 0 = λ c. Some (pair_at s n) ≡ Some (pair_at c n) in
      let e : s ≡ s + 0 = omega arith in
      let z : s + 0 + 1 + n ≡ s + suc n = omega arith in
      (n, subst P e refl, z)
  slots-get (suc n) s (suc i) h =
      let r = slots-get n (s + 1) i (omega (arith, h)) in
      let e : (s + 1) + i ≡ s + suc i = omega arith in
      let q = r.2 in
      let z : s + suc i + 1 + r.0 ≡ s + suc n = omega (arith, q) in
      let P : ℕ → Type 0 = λ c. slice_get (slots_from image costs program (s + 1) n) i ≡ Some (pair_at c r.0) in
      (r.0, subst P e r.1, z)

  -- the pairs of later slots are the same wherever a list begins
  slots-tail : (n s i m : ℕ) → i + m ≡ n → (j : ℕ) → slice_get (slots_from image costs program (s + i) m) j ≡ slice_get (slots_from image costs program s n) (i + j)
  slots-tail n s zero m e j =
      let x : m ≡ n = omega (arith, e) in
      let y : s + 0 ≡ s = omega arith in
      let z : j ≡ 0 + j = omega arith in
      ap (λ c. slice_get (slots_from image costs program c m) j) y ∙ ap (λ c. slice_get (slots_from image costs program s c) j) x ∙ ap (slice_get (slots_from image costs program s n)) z
  slots-tail zero s (suc i) m e j = absurd (omega (arith, e))
  slots-tail (suc n) s (suc i) m e j =
      let x : s + suc i ≡ (s + 1) + i = omega arith in
      let z : suc (i + j) ≡ suc i + j = omega arith in
      ap (λ c. slice_get (slots_from image costs program c m) j) x ∙ slots-tail n (s + 1) i m (omega (arith, e)) j ∙ ap (slice_get (slots_from image costs program s (suc n))) z

  abbrev N : ℕ
  N = length image.slots

  -- what is known of later slots where a slot's numbers are told
  later : (s m : ℕ) → s + 1 + m ≡ N → (side : Side) (c : ℕ) → s < c → on_side side (slice_get (known s m) c) ≡ on_side side (slice_get (slot_bounds image costs program) c)
  later s m e side c h =
      let a = get-past (s + 1) c (None, None) (slots_from image costs program (s + 1) m) (omega (arith, h)) in
      let b = slots-tail N 0 (s + 1) m (omega (arith, e)) (c - (s + 1)) in
      let x : s + 1 ≡ 0 + (s + 1) = omega arith in
      let y : (s + 1) + (c - (s + 1)) ≡ c = omega (arith, h) in
      ap (on_side side) (a ∙ ap (λ z. slice_get (slots_from image costs program z m) (c - (s + 1))) x ∙ b ∙ ap (slice_get (slot_bounds image costs program)) y)

  -- a fork of the slot waits for later slots
  abbrev pub IsAbove : ℕ → Point → Type 0
  IsAbove s p = (lo n : ℕ) → instr_at image p.at ≡ Some (instr.Fork lo n) → s < lo

  waits-same : (s m : ℕ) → s + 1 + m ≡ N → (side : Side) (p : Point) → IsAbove s p → waited image (so_far image costs program (known s m)) costs side p ≡ waited image C costs side p
  waits-same s m e side p above = by (instr_at image p.at) refl
    where
      by : (o : Option Instr) → instr_at image p.at ≡ o → waited_by image (so_far image costs program (known s m)) costs o side p ≡ waited_by image C costs o side p
      by None h = refl
      by (Some (instr.Fork lo n)) h =
          let K = so_far image costs program (known s m) in
          let f = resumed image K costs in
          let g = resumed image C costs in
          let low = above lo n h in
          let alike : (x : Side) (c : ℕ) → lo ≤ c → c < lo + n → f x c ≡ g x c = λ x c u v. later s m e x c (omega (arith, low, u)) in
          let ends = ends-same f g n lo alike in
          let pauses = paused-same f g n lo alike in
          let stack = p.stack in
          let r = resting image C costs stack (length stack) side in
          let q = num image C costs side (length stack) (p.at + 1) in
          let whole : Option ℕ → Option ℕ → Option ℕ = λ x y. where_some (greater x y) (tested image C costs side 0 stack (greater (plus y r) (plus x q))) in
          ap (λ x. whole x (resumed_paused f lo n)) ends ∙ ap (whole (resumed_ends g lo n)) pauses
      by (Some other) h = refl

  pair-side : (x : Side → Option ℕ) (side : Side) → on_side side (Some (x ToPause, x ToEnd)) ≡ x side
  pair-side x ToPause = refl
  pair-side x ToEnd = refl

  pub slot-greatest : ((p : Point) → IsAmong p image.pauses → p.slot < N) → ((p : Point) → IsAmong p image.forks → p.slot < N) → ((p : Point) → IsAmong p image.forks → IsAbove p.slot p) →
      (s : ℕ) (side : Side) → resumed image C costs side s ≡ greater (best (paused image C costs side) s image.pauses) (best (waited image C costs side) s image.forks)
  slot-greatest low_pauses low_forks above s side = ⊎_elim (λ h. inner h) (λ h. outer h) (cases_lt s N)
    where
      inner : s < N → resumed image C costs side s ≡ greater (best (paused image C costs side) s image.pauses) (best (waited image C costs side) s image.forks)
      inner h =
          let r = slots-get N 0 s h in
          let m = r.0 in
          let e : 0 + s ≡ s = omega arith in
          let size : s + 1 + m ≡ N = (let q = r.2 in omega (arith, q)) in
          let P : ℕ → Type 0 = λ c. on_side side (slice_get (slot_bounds image costs program) s) ≡ resumption image costs program (known c m) c side in
          let given = ap (on_side side) r.1 ∙ pair-side (λ x. resumption image costs program (known (0 + s) m) (0 + s) x) side in
          subst P e given
          ∙ ap (greater (best (paused image C costs side) s image.pauses))
          (best-same (waited image (so_far image costs program (known s m)) costs side) (waited image C costs side) s image.forks
          (λ p k same. waits-same s m size side p (λ lo n i. let a = above p k lo n i in omega (arith, a, same))))

      outer : N ≤ s → resumed image C costs side s ≡ greater (best (paused image C costs side) s image.pauses) (best (waited image C costs side) s image.forks)
      outer h =
          let a = best-none (paused image C costs side) s image.pauses (λ p k e. let l = low_pauses p k in omega (arith, l, e, h)) in
          let b = best-none (waited image C costs side) s image.forks (λ p k e. let l = low_forks p k in omega (arith, l, e, h)) in
          ap (on_side side) (past (slot_bounds image costs program) s (slots-size N 0 s h)) ∙ sym (ap (λ o. greater o (best (waited image C costs side) s image.forks)) a ∙ b)
        where
          past : {X : Type 0} (xs : List X) (i : ℕ) → length xs ≤ i → slice_get xs i ≡ None
          past [] i h = refl
          past (x ∷ xs) zero h = absurd (omega (arith, h))
          past (x ∷ xs) (suc i) h = past xs i (omega (arith, h))

          slots-size : (n c i : ℕ) → n ≤ i → length (slots_from image costs program c n) ≤ i
          slots-size zero c i h = omega arith
          slots-size (suc n) c zero h = absurd (omega (arith, h))
          slots-size (suc n) c (suc i) h = let r = slots-size n (c + 1) i (omega (arith, h)) in omega (arith, r)

  pub bounds-size : (n c : ℕ) → length (slots_from image costs program c n) ≡ n
  bounds-size zero c = refl
  bounds-size (suc n) c = let r = bounds-size n (c + 1) in omega (arith, r)
