-- No slot is started by two forks of a list, where each fork starts slots of its own.
use Rattle.std.proofs.Common.{◌≡◌, inl, inr, ℕ, zero, suc, ◌+◌, ◌-◌, ◌<◌, ◌≤◌, ◌==◌, ◌&&◌, not, nat_lt, Bool, true, false, IsTrue}
use Rattle.std.proofs.Common.{if◌then◌else◌, Some, List, [], ◌∷◌, ◌++◌, map, refl, sym, ap, subst, ◌∙◌, arith, eq-eqb, ⊎_elim}
use Rattle.std.specs.List.{AllByRecursion, list_all, filter, flat_map}
use Rattle.std.proofs.lemmas.Bool.{and_parts, cases_lt, eqb-true}
use Rattle.std.proofs.lemmas.Bool.Decides.{Decides-ltb}
use Rattle.mb_isa.specs.declared.words.Instr.TheVariants.{Fork}
use Rattle.pt_image.specs.declared.image.Point.{Point}
use Rattle.pt_image.specs.declared.image.Parts.{Parts}
use Rattle.pc_lower.specs.Slots.{AreChildren}
use Rattle.pc_lower.proofs.StepFacts.{lt-true}
use Rattle.tk_cert.specs.Demands.{Demand, shape_demand, AllHold}
use Rattle.tk_paths.specs.Words.{instr_at}
use Rattle.tk_paths.specs.Kinds.{points_at, places_of}
use Rattle.tk_paths.specs.Shape.{children_in, children_at, meet, earlier, is_apart, apart}
use Rattle.tk_paths.proofs.Lists.{IsAmong, all-among}
use Rattle.pc_emit.proofs.Lists.{all_append}
use Rattle.pc_emit.proofs.Points.{AreSpread}

not-true : (b : Bool) → (b ≡ true → ⊥) → b ≡ false
not-true true h = absurd (h refl)
not-true false h = refl

meet-apart : (a b n m : ℕ) → (a < b + m → b < a + n → ⊥) → meet (a, n) (b, m) ≡ false
meet-apart a b n m h =
    not-true (nat_lt a (b + m) && nat_lt b (a + n)) (λ e.
    (let k = and_parts (nat_lt a (b + m)) (nat_lt b (a + n)) e in h ((Decides-ltb a (b + m)).0 k.0) ((Decides-ltb b (a + n)).0 k.1)))

module _ (parent : ℕ → ℕ) where
  child-of : (s lo n i : ℕ) → i < n → AreChildren parent s lo n → parent (lo + i) ≡ s
  child-of s lo zero i lt h = absurd (omega (arith, lt))
  child-of s lo (suc n) zero lt h = let e : lo + 0 ≡ lo = omega arith in ap parent e ∙ h.0.0
  child-of s lo (suc n) (suc i) lt h = let e : lo + suc i ≡ lo + 1 + i = omega arith in ap parent e ∙ child-of s (lo + 1) n i
      (omega (arith, lt)) h.1

  child-in : (s lo n c : ℕ) → lo ≤ c → c < lo + n → AreChildren parent s lo n → parent c ≡ s
  child-in s lo n c le lt h = let e : c ≡ lo + (c - lo) = omega (arith, le) in ap parent e ∙ child-of s lo n (c - lo)
      (omega (arith, le, lt)) h

  pub child-above : (s lo n : ℕ) → 1 ≤ n → AreChildren parent s lo n → s < lo
  child-above s lo zero some h = absurd (omega (arith, some))
  child-above s lo (suc n) some h = h.0.1

  -- slots of two parents
  meet-strangers : (s t a b n m : ℕ) → (s ≡ t → ⊥) → 1 ≤ n → 1 ≤ m → AreChildren parent s a n → AreChildren parent t b m → meet (a, n)
      (b, m) ≡ false
  meet-strangers s t a b n m differ some more h k =
      meet-apart a b n m (λ x y. ⊎_elim
      (λ lt. differ (sym (child-in s a n a (omega arith) (omega (arith, some)) h) ∙ child-in t b m a (omega (arith, lt)) x k))
      (λ le. differ (sym (child-in s a n b le y h) ∙ child-in t b m b (omega arith) (omega (arith, more)) k)) (cases_lt b a))

module _ (image : Parts) (parent : ℕ → ℕ) where
  -- the forks of two points start no common slot
  abbrev pub IsClear : Point → Point → Type 0
  IsClear p q = meet (children_at image q.at) (children_at image p.at) ≡ false

  abbrev pub AreClear : List Point → Type 0
  AreClear [] = Unit {0}
  AreClear (p ∷ points) = AllByRecursion (IsClear p) points × AreClear points

  -- the slots of a fork are those that slot s starts
  pub record IsOwned (s : ℕ) (p : Point) : Type 0 where
    pub lo : ℕ
    pub n : ℕ
    pub there : instr_at image p.at ≡ Some (Fork lo n)
    pub some : 1 ≤ n
    pub children : AreChildren parent s lo n

  -- where these are the children
  clear-by : (p q : Point) (a b n m : ℕ) → instr_at image p.at ≡ Some (Fork a n) → instr_at image q.at ≡ Some (Fork b m) → meet (b, m)
      (a, n) ≡ false → IsClear p q
  clear-by p q a b n m h k e = ap (λ x. meet x (children_at image p.at)) (ap children_in k) ∙ ap (meet (b, m)) (ap children_in h) ∙ e

  pub clear-strangers : (s t : ℕ) (p q : Point) → (s ≡ t → ⊥) → IsOwned s p → IsOwned t q → IsClear p q
  clear-strangers s t p q differ h k =
      clear-by p q h.lo k.lo h.n k.n h.there k.there (meet-strangers parent t s k.lo h.lo k.n h.n
      (λ e. differ (sym e)) k.some h.some k.children h.children)

  -- ---- forks of one slot

  pub spread-owned : (s from to : ℕ) (points : List Point) → AreSpread image parent s from points to → AllByRecursion (IsOwned s) points
  spread-owned s from to [] h = tt
  spread-owned s from to (p ∷ points) h = (
    record { lo = h.0; n = h.1; there = h.2; some = h.4; children = h.5 },
    spread-owned s
        (h.0 + h.1) to points h.6,
  )

  spread-clear-of : (s from to : ℕ) (p : Point) (a n : ℕ) (points : List Point) → instr_at image p.at ≡ Some (Fork a n) → a + n ≤ from →
      AreSpread image parent s from points to → AllByRecursion (IsClear p) points
  spread-clear-of s from to p a n [] there le h = tt
  spread-clear-of s from to p a n (q ∷ points) there le h =
      let above = h.3 in (
        clear-by p q a h.0 n h.1 there h.2 (meet-apart h.0 a h.1 n (λ x y. omega (arith, x, le, above))),
        spread-clear-of s (h.0 + h.1) to p a n points there (omega (arith, le, above)) h.6,
      )

  pub spread-clear : (s from to : ℕ) (points : List Point) → AreSpread image parent s from points to → AreClear points
  spread-clear s from to [] h = tt
  spread-clear s from to (p ∷ points) h = (
    spread-clear-of s (h.0 + h.1) to p h.0 h.1 points h.2 (omega arith) h.6,
    spread-clear s
        (h.0 + h.1) to points h.6,
  )

  -- ---- forks of several

  both-clear-of : (p : Point) (xs ys : List Point) → AllByRecursion (IsClear p) xs → AllByRecursion (IsClear p) ys → AllByRecursion
      (IsClear p) (xs ++ ys)
  both-clear-of p [] ys h k = k
  both-clear-of p (x ∷ xs) ys h k = (h.0, both-clear-of p xs ys h.1 k)

  pub both-clear : (xs ys : List Point) → AreClear xs → AreClear ys → AllByRecursion (λ (x : Point). AllByRecursion (IsClear x) ys) xs →
      AreClear (xs ++ ys)
  both-clear [] ys h k between = k
  both-clear (x ∷ xs) ys h k between = (both-clear-of x xs ys h.0 between.0, both-clear xs ys h.1 k between.1)

  -- ---- as acceptance asks it

  clear-earlier : (points : List Point) (p : Point) (place : ℕ) → IsAmong p points → p.at ≡ place → AreClear points →
      list_all (λ (q : Point). not (meet (children_at image place) (children_at image q.at))) (earlier points place) ≡ true
  clear-earlier [] p place among is h = refl
  clear-earlier (q ∷ points) p place among is h = by (λ later. clear-earlier points p place later is h.1) (q.at == place) refl
    where
      by : (IsAmong p points → list_all (λ (r : Point). not (meet (children_at image place) (children_at image r.at)))
          (earlier points place) ≡ true) → (t : Bool) → (q.at == place) ≡ t → list_all
          (λ (r : Point). not (meet (children_at image place) (children_at image r.at))) (if t then [] else q ∷ earlier points place) ≡ true
      by rest true e = refl
      by rest false e =
          let later : IsAmong p points = ⊎_elim (λ (same : q ≡ p).
          (let k : (q.at == place) ≡ true = ap (λ (r : Point). r.at == place) same ∙ ap (λ n. n == place) is
          ∙ eq-eqb place place refl in let z : true ≡ false = sym k ∙ e in absurd cc)) (λ l. l) among in
          let clear : meet (children_at image place) (children_at image q.at) ≡ false =
          subst (λ n. meet (children_at image n) (children_at image q.at) ≡ false) is (all-among (IsClear q) points p h.0 later) in
          rw (clear, rest later) refl

  all-flat : {X Y : Type 0} (P : Y → Type 0) (g : X → List Y) (xs : List X) → ((x : X) → AllByRecursion P (g x)) → AllByRecursion P
      (flat_map g xs)
  all-flat P g [] h = tt
  all-flat P g (x ∷ xs) h = all_append P (g x) (flat_map g xs) (h x) (all-flat P g xs h)

  all-mapped : {X Y : Type 0} (P : Y → Type 0) (g : X → Y) (p : X → Bool) (xs : List X) → ((x : X) → IsAmong x xs → p x ≡ true → P (g x)) →
      AllByRecursion P (map g (filter p xs))
  all-mapped P g p [] h = tt
  all-mapped P g p (x ∷ xs) h = by (all-mapped P g p xs (λ y among. h y (inr among))) (p x) refl
    where
      by : AllByRecursion P (map g (filter p xs)) → (t : Bool) → p x ≡ t → AllByRecursion P
          (map g (if t then x ∷ filter p xs else filter p xs))
      by more true e = (h x (inl refl) e, more)
      by more false e = more

  pub forks-apart : AreClear image.forks → ((p : Point) → IsAmong p image.forks → (s : ℕ) × IsOwned s p) → AllHold (apart image)
  forks-apart clear owned =
      let P : Demand → Type 0 = λ d. IsTrue d.holds in
      all-flat P (λ place. map (λ (p : Point). shape_demand 2 place (is_apart image place)) (points_at image.forks place)) (places_of image)
      (λ place. all-mapped P (λ (p : Point). shape_demand 2 place (is_apart image place)) (λ (p : Point). p.at == place) image.forks
      (λ p among here.
      let is : p.at ≡ place = eqb-true p.at place here in
      let own = owned p among in
      let kids : children_at image place ≡ (own.1.lo, own.1.n) = ap (children_at image) (sym is) ∙ ap children_in own.1.there in
      let above = child-above parent own.0 own.1.lo own.1.n own.1.some own.1.children in
      let first : nat_lt 0 ((children_at image place).0) ≡ true = ap (λ (x : ℕ × ℕ). nat_lt 0 (x.0)) kids ∙ lt-true 0 own.1.lo
      (omega (arith, above)) in
      rw (first, clear-earlier image.forks p place among is clear) refl))
