-- Sums over threads, each of which is started in one place.
use Rattle.std.proofs.Common.{◌≡◌, ◌⊎◌, ℕ, zero, suc, ◌+◌, ◌*◌, ◌<◌, ◌≤◌, ◌==◌, ◌++◌, true, false, if◌then◌else◌, List, [], ◌∷◌, refl, sym, ap, ◌∙◌, subst, inl, inr, ⊎_elim, arith, eq-eqb}
use Rattle.std.specs.List.{AllByRecursion}
use Rattle.mb_pfu.proofs.Cases.{split}
use Rattle.pc_lower.specs.StepCounts.{total_of}
use Rattle.pc_lower.specs.Limits.{times_in, times_below, sum_below}
use Rattle.pc_lower.proofs.Slots.{same-of, other-of}

-- ---- lists

pub total-append : (worth : ℕ → ℕ) (xs ys : List ℕ) → total_of worth (xs ++ ys) ≡ total_of worth xs + total_of worth ys
total-append worth [] ys = omega arith
total-append worth (x ∷ xs) ys = let h = total-append worth xs ys in omega (arith, h)

pub times-append : (q : ℕ) (xs ys : List ℕ) → times_in q (xs ++ ys) ≡ times_in q xs + times_in q ys
times-append q [] ys = omega arith
times-append q (x ∷ xs) ys = let h = times-append q xs ys in omega (arith, h)

pub all-append : (P : ℕ → Type 0) (xs ys : List ℕ) → AllByRecursion P xs → AllByRecursion P ys → AllByRecursion P (xs ++ ys)
all-append P [] ys h k = k
all-append P (x ∷ xs) ys h k = (h.0, all-append P xs ys h.1 k)

pub all-as : (P Q : ℕ → Type 0) (xs : List ℕ) → ((x : ℕ) → P x → Q x) → AllByRecursion P xs → AllByRecursion Q xs
all-as P Q [] f h = tt
all-as P Q (x ∷ xs) f h = (f x h.0, all-as P Q xs f h.1)

pub all-both : (P Q : ℕ → Type 0) (xs : List ℕ) → AllByRecursion P xs → AllByRecursion Q xs → AllByRecursion (λ x. P x × Q x) xs
all-both P Q [] h k = tt
all-both P Q (x ∷ xs) h k = ((h.0, k.0), all-both P Q xs h.1 k.1)

-- each member of a list is worth no more than all
pub all-less : (worth : ℕ → ℕ) (most : ℕ) (xs : List ℕ) → total_of worth xs ≤ most → AllByRecursion (λ x. worth x ≤ most) xs
all-less worth most [] le = tt
all-less worth most (x ∷ xs) le = (omega (arith, le), all-less worth most xs (omega (arith, le)))

pub total-most : (worth : ℕ → ℕ) (most : ℕ) (xs : List ℕ) → AllByRecursion (λ x. worth x ≤ most) xs → total_of worth xs ≤ most * total_of (λ x. 1) xs
total-most worth most [] h = omega arith
total-most worth most (x ∷ xs) h = let r = total-most worth most xs h.1 in omega (arith, r, h.0)

pub total-mono : (worth other : ℕ → ℕ) (xs : List ℕ) → AllByRecursion (λ x. worth x ≤ other x) xs → total_of worth xs ≤ total_of other xs
total-mono worth other [] h = omega arith
total-mono worth other (x ∷ xs) h = let r = total-mono worth other xs h.1 in omega (arith, r, h.0)

-- a list without a number
abbrev pub without : ℕ → List ℕ → List ℕ
without m [] = []
without m (x ∷ xs) = if m == x then without m xs else x ∷ without m xs

pub total-without : (worth : ℕ → ℕ) (m : ℕ) (xs : List ℕ) → total_of worth xs ≡ times_in m xs * worth m + total_of worth (without m xs)
total-without worth m [] = omega arith
total-without worth m (x ∷ xs) =
    let h = total-without worth m xs in
    split (m == x)
    (λ e. let s : x ≡ m = same-of m x e in let w : worth x ≡ worth m = ap worth s in rw e (omega (arith, h, w)))
    (λ e. rw e (omega (arith, h)))

pub times-without : (q m : ℕ) (xs : List ℕ) → times_in q (without m xs) ≤ times_in q xs
times-without q m [] = omega arith
times-without q m (x ∷ xs) =
    let h = times-without q m xs in
    split (m == x) (λ e. rw e (omega (arith, h))) (λ e. rw e (omega (arith, h)))

total-less : (worth : ℕ → ℕ) (m : ℕ) (xs : List ℕ) → total_of worth (without m xs) ≤ total_of worth xs
total-less worth m [] = omega arith
total-less worth m (x ∷ xs) =
    let h = total-less worth m xs in
    split (m == x) (λ e. rw e (omega (arith, h))) (λ e. rw e (omega (arith, h)))

pub all-without : (P : ℕ → Type 0) (m : ℕ) (xs : List ℕ) → AllByRecursion P xs → AllByRecursion P (without m xs)
all-without P m [] h = tt
all-without P m (x ∷ xs) h =
    split (m == x) (λ e. rw e (all-without P m xs h.1)) (λ e. rw e (h.0, all-without P m xs h.1))

pub below-without : (n : ℕ) (xs : List ℕ) → AllByRecursion (λ x. x < suc n) xs → AllByRecursion (λ x. x < n) (without n xs)
below-without n [] h = tt
below-without n (x ∷ xs) h =
    split (n == x) (λ e. rw e (below-without n xs h.1))
    (λ e.
    let differs : n ≡ x → ⊥ = λ s. let t : (n == x) ≡ true = eq-eqb n x s in let no : true ≡ false = sym t ∙ e in cc in
    let lt : x < n = omega (arith, h.0, differs) in
    rw e (lt, below-without n xs h.1))

none-past : (q n : ℕ) (xs : List ℕ) → n ≤ q → AllByRecursion (λ x. x < n) xs → times_in q xs ≡ 0
none-past q n [] le h = refl
none-past q n (x ∷ xs) le h =
    let e : (q == x) ≡ false = other-of q x (λ s. omega (arith, s, h.0, le)) in
    let r = none-past q n xs le h.1 in
    rw e (omega (arith, r))

pub picked : (P : ℕ → Type 0) (m : ℕ) (xs : List ℕ) → AllByRecursion P xs → 1 ≤ times_in m xs → P m
picked P m [] all le = absurd (omega (arith, le))
picked P m (x ∷ xs) all le =
    split (m == x) (λ e. subst P (same-of m x e) all.0) (λ e. let k : 1 ≤ times_in m xs = let r : 1 ≤ 0 + times_in m xs = rw e at le in omega (arith, r) in picked P m xs all.1 k)

-- ---- threads

module _ (started : ℕ → List ℕ) (earlier : (f : ℕ) → AllByRecursion (λ g. g < f) (started f)) where
  pub below-more : (q n m : ℕ) → n ≤ m → times_below started q n ≤ times_below started q m
  below-more q n zero le = let e : n ≡ 0 = omega (arith, le) in rw e (omega arith)
  below-more q n (suc m) le = ⊎_elim (λ l. let h = below-more q n m l in omega (arith, h)) (λ e. rw e (omega arith)) (last-or n m le)
    where
      last-or : (n m : ℕ) → n ≤ suc m → (n ≤ m) ⊎ (n ≡ suc m)
      last-or zero m le = inl (omega arith)
      last-or (suc n) zero le = inr (omega (arith, le))
      last-or (suc n) (suc m) le = ⊎_elim (λ l. inl (omega (arith, l))) (λ e. inr (ap suc e)) (last-or n m (omega (arith, le)))

  pub sum-more : (worth : ℕ → ℕ) (n m : ℕ) → n ≤ m → sum_below started worth n ≤ sum_below started worth m
  sum-more worth n zero le = let e : n ≡ 0 = omega (arith, le) in rw e (omega arith)
  sum-more worth n (suc m) le = ⊎_elim (λ l. let h = sum-more worth n m l in omega (arith, h)) (λ e. rw e (omega arith)) (last-or n m le)
    where
      last-or : (n m : ℕ) → n ≤ suc m → (n ≤ m) ⊎ (n ≡ suc m)
      last-or zero m le = inl (omega arith)
      last-or (suc n) zero le = inr (omega (arith, le))
      last-or (suc n) (suc m) le = ⊎_elim (λ l. inl (omega (arith, l))) (λ e. inr (ap suc e)) (last-or n m (omega (arith, le)))

  -- what the functions up to one start is worth no more than all
  pub one-less : (worth : ℕ → ℕ) (f n : ℕ) → f < n → total_of worth (started f) ≤ sum_below started worth n
  one-less worth f n lt = let h = sum-more worth (suc f) n (omega (arith, lt)) in omega (arith, h)

  -- no function up to a number starts it
  pub not-below : (q n : ℕ) → n ≤ suc q → times_below started q n ≡ 0
  not-below q zero le = refl
  not-below q (suc n) le =
      let h = not-below q n (omega (arith, le)) in
      let r = none-past q n (started n) (omega (arith, le)) (earlier n) in
      omega (arith, h, r)

  -- a worth that each function shares with those that it starts is, for a list of threads, no more than what these and all that
  -- the functions below start have of their own
  module _ (P : ℕ → Type 0) (theirs : (f : ℕ) → P f → AllByRecursion P (started f)) (own worth : ℕ → ℕ) (shared : (f : ℕ) → P f → worth f ≤ own f + total_of worth (started f)) where
    pub sums : (n : ℕ) (xs : List ℕ) → AllByRecursion (λ x. x < n) xs → AllByRecursion P xs → ((q : ℕ) → times_in q xs + times_below started q n ≤ 1) →
        total_of worth xs ≤ total_of own xs + sum_below started own n
    sums zero [] below all once = omega arith
    sums zero (x ∷ xs) below all once = absurd (omega (arith, below.0))
    sums (suc n) xs below all once = by (times_in n xs) refl (sums n)
      where
        by : (k : ℕ) → times_in n xs ≡ k →
            ((ys : List ℕ) → AllByRecursion (λ x. x < n) ys → AllByRecursion P ys → ((q : ℕ) → times_in q ys + times_below started q n ≤ 1) → total_of worth ys ≤ total_of own ys + sum_below started own n) →
            total_of worth xs ≤ total_of own xs + sum_below started own (suc n)
        by zero is next =
            let a = total-without worth n xs in
            let b : times_in n xs * worth n ≡ 0 = ap (λ t. t * worth n) is ∙ omega arith in
            let c = total-less own n xs in
            let r = next (without n xs) (below-without n xs below) (all-without P n xs all) (λ q. let s = times-without q n xs in let o = once q in omega (arith, s, o)) in
            omega (arith, a, b, c, r)
        by (suc zero) is next =
            let mine : P n = picked P n xs all (omega (arith, is)) in
            let ys = started n ++ without n xs in
            let a = total-without worth n xs in
            let b : times_in n xs * worth n ≡ worth n = ap (λ t. t * worth n) is ∙ omega arith in
            let c = total-without own n xs in
            let d : times_in n xs * own n ≡ own n = ap (λ t. t * own n) is ∙ omega arith in
            let e = total-append worth (started n) (without n xs) in
            let g = total-append own (started n) (without n xs) in
            let h = shared n mine in
            let few : (q : ℕ) → times_in q ys + times_below started q n ≤ 1 = λ q. let s = times-without q n xs in let t = times-append q (started n) (without n xs) in let o = once q in omega (arith, s, t, o) in
            let r = next ys (all-append (λ x. x < n) (started n) (without n xs) (earlier n) (below-without n xs below)) (all-append P (started n) (without n xs) (theirs n mine) (all-without P n xs all)) few in
            omega (arith, a, b, c, d, e, g, h, r)
        by (suc (suc k)) is next = let o = once n in absurd (omega (arith, o, is))
