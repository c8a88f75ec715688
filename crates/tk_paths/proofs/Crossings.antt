-- A region is crossed at the cost of its dearest way, whatever is round it: loops turn as often as they say, routines return.
use Rattle.std.proofs.Common.{◌≡◌, ◌≤◌, ◌<◌, ◌+◌, ◌*◌, ◌++◌, max, ℕ, zero, suc, nat_le, Bool, true, false, if◌then◌else◌, List, [], ◌∷◌, length, Some, refl, ap, subst, leb-true, arith}
use Rattle.std.proofs.lemmas.Bool.Decides.{nat_tests}
use Rattle.mb_isa.specs.declared.Class.{Class}
use Rattle.mb_isa.specs.declared.Class.TheVariants as class
use Rattle.mb_isa.specs.Costs.{cost_of}
use Rattle.mb_pfu.specs.Unit.{State}
use Rattle.pt_image.specs.declared.Parts.{Parts}
use Rattle.mb_isa.specs.Control.{Control, Turn, goes}
use Rattle.tk_paths.specs.declared.word.Word.TheVariants.{Jump, Branch}
use Rattle.tk_paths.specs.Passages.{Leads, Passage}
use Rattle.tk_paths.specs.Regions.{Region, Words, Then, Choice, Counted, Repeated, Calling, from, to, links_in, counters_in, half, word_place, behind, IsUnit, AreUnits, IsLaid, extra, units_cost, test_cost, tested_turn, plain_turn, leaving, through, times, dearest_way, Crossing}
use Rattle.tk_paths.proofs.Moves.{no-lead, joined-leads, costing}
use Rattle.tk_paths.proofs.Units.{counting, jump-step, taken-step, untaken-step, call-step, ret-step, loop-step, again-step, over-step, drop-step, word-lead, unit-lead, units-lead}

longer : (before : List ℕ) (x : ℕ) → length (before ++ x ∷ []) ≡ length before + 1
longer [] x = refl
longer (y ∷ before) x = let r = longer before x in omega (arith, r)

second-greater : (x y : ℕ) → nat_le x y ≡ true → y ≡ max x y
second-greater x y e = let d : x ≤ y = leb-true x y e in omega (arith, d)

first-greater : (x y : ℕ) → nat_le x y ≡ false → x ≡ max x y
first-greater x y e = let d : y < x = grind (arith, nat_tests, e) in omega (arith, d)

none-behind : (x : List Bool) → x ++ [] ≡ x
none-behind [] = refl
none-behind (b ∷ x) = ap (λ y. b ∷ y) (none-behind x)

module _ (image : Parts) (costs : List ℕ) where
  abbrev cost : Class → ℕ
  cost class = cost_of costs class

  abbrev at : ℕ → ℕ → State → Control
  at s place u = goes (Turn s) place u

  abbrev Lead : Control → List Bool → ℕ → Control → Type 0
  Lead a x n b = Leads image costs a x n b

  onward : (a b c : Control) (x y : List Bool) (m n : ℕ) → Lead a x m b → Lead b y n c → Lead a (x ++ y) (m + n) c
  onward a b c x y m n p q = joined-leads image costs a b c x y m n p q

  as-is : (a b : Control) (x : List Bool) (m n : ℕ) → m ≡ n → Lead a x m b → Lead a x n b
  as-is a b x m n e p = costing image costs a b x m n e p

  -- to an equal place
  ends-at : (a : Control) (x : List Bool) (n s p q : ℕ) (u : State) → p ≡ q → Lead a x n (at s p u) → Lead a x n (at s q u)
  ends-at a x n s p q u e l = let L : ℕ → Type 0 = λ z. Lead a x n (at s z u) in subst L e l

  crossing-same : (r : Region) (x : List Bool) (m n : ℕ) → m ≡ n → Crossing image costs r x m → Crossing image costs r x n
  crossing-same r x m n e c = subst (Crossing image costs r x) e c

  -- by the same choices
  retold : (a b : Control) (x y : List Bool) (n : ℕ) → x ≡ y → Lead a x n b → Lead a y n b
  retold a b x y n e l = let L : List Bool → Type 0 = λ z. Lead a z n b in subst L e l

  -- a test and its branch
  untaken : (s p n i q next : ℕ) (u : State) → AreUnits image p n i → IsUnit image i (Branch (Some q)) → behind image i ≡ next →
      Lead (at s p u) (false ∷ []) ((units_cost image costs p n + extra image costs i) + cost class.Untaken) (at s next u)
  untaken s p n i q next u l b e =
      as-is (at s p u) (at s next u) (false ∷ []) (units_cost image costs p n + (extra image costs i + cost class.Untaken)) ((units_cost image costs p n + extra image costs i) + cost class.Untaken) (omega arith)
      (onward (at s p u) (at s i u) (at s next u) [] (false ∷ []) (units_cost image costs p n) (extra image costs i + cost class.Untaken) (units-lead image costs (Turn s) n p i u l)
      (ends-at (at s i u) (false ∷ []) (extra image costs i + cost class.Untaken) s (behind image i) next u e
      (unit-lead image costs (Turn s) i u (false ∷ []) (cost class.Untaken) (at s (behind image i) u) (untaken-step image costs (Turn s) (word_place image i) (half image i) u q b))))

  taken : (s p n i q : ℕ) (u : State) → AreUnits image p n i → IsUnit image i (Branch (Some q)) →
      Lead (at s p u) (true ∷ []) ((units_cost image costs p n + extra image costs i) + cost class.Taken) (at s q u)
  taken s p n i q u l b =
      as-is (at s p u) (at s q u) (true ∷ []) (units_cost image costs p n + (extra image costs i + cost class.Taken)) ((units_cost image costs p n + extra image costs i) + cost class.Taken) (omega arith)
      (onward (at s p u) (at s i u) (at s q u) [] (true ∷ []) (units_cost image costs p n) (extra image costs i + cost class.Taken) (units-lead image costs (Turn s) n p i u l)
      (unit-lead image costs (Turn s) i u (true ∷ []) (cost class.Taken) (at s q u) (taken-step image costs (Turn s) (word_place image i) (half image i) u q b)))

  jumps : (s p q : ℕ) (u : State) → IsUnit image p (Jump (Some q)) → Lead (at s p u) [] (extra image costs p + cost class.Jump) (at s q u)
  jumps s p q u j = unit-lead image costs (Turn s) p u [] (cost class.Jump) (at s q u) (jump-step image costs (Turn s) (word_place image p) (half image p) u q j)

  -- a loop with a test
  module _ (p m n i : ℕ) (body : Region) (q : ℕ) (l : IsLaid image (Counted p m n i body q)) (b : ℕ) (way : List Bool) (inner : Crossing image costs body way b) where
    abbrev head : ℕ
    head = behind image p

    abbrev turn : List Bool
    turn = false ∷ way

    abbrev turns : ℕ → List Bool
    turns k = times k turn

    abbrev W : ℕ
    W = tested_turn image costs p n i body b

    abbrev R : ℕ
    R = test_cost image costs p n i

    abbrev J : ℕ
    J = extra image costs (to body) + cost class.Jump

    module _ (s : ℕ) (u : State) (room : length u.links + links_in body ≤ 16) (more : length u.counters + 1 + counters_in body ≤ 136) where
      one-turn : (k : ℕ) → Lead (at s head (counting u (suc k))) turn W (at s head (counting u k))
      one-turn k =
          let v = counting u k in
          let a = at s head (counting u (suc k)) in
          let c = at s (head + 1) v in
          let d = at s (from body) v in
          let e = at s (to body) v in
          let f = at s head v in
          let size = longer u.counters k in
          retold a f (false ∷ (way ++ [])) turn W (ap (λ x. false ∷ x) (none-behind way))
          (onward a c f [] (false ∷ (way ++ [])) (cost class.Next) ((R + cost class.Untaken) + (b + J)) (word-lead image costs (Turn s) head (counting u (suc k)) [] (cost class.Next) c (again-step image costs s head u (q + 1) k l.1))
          (onward c d f (false ∷ []) (way ++ []) (R + cost class.Untaken) (b + J) (untaken s (head + 1) n i q (from body) v l.2 l.3 l.4)
          (onward d e f way [] b J (inner.leads s v room (omega (arith, size, more))) (jumps s (to body) head v l.6))))

      many-turns : (k c j : ℕ) → c ≡ k + j → Lead (at s head (counting u c)) (turns k) (k * W) (at s head (counting u j))
      many-turns zero c j e =
          let z : c ≡ j = omega (arith, e) in
          let w : 0 ≡ 0 * W = omega arith in
          let L : ℕ → Type 0 = λ x. Lead (at s head (counting u c)) [] 0 (at s head (counting u x)) in
          as-is (at s head (counting u c)) (at s head (counting u j)) [] 0 (0 * W) w (subst L z (no-lead image costs (at s head (counting u c))))
      many-turns (suc k) zero j e = absurd (omega (arith, e))
      many-turns (suc k) (suc c) j e =
          let w : W + k * W ≡ suc k * W = omega arith in
          as-is (at s head (counting u (suc c))) (at s head (counting u j)) (turns (suc k)) (W + k * W) (suc k * W) w
          (onward (at s head (counting u (suc c))) (at s head (counting u c)) (at s head (counting u j)) turn (turns k) W (k * W) (one-turn c) (many-turns k c j (omega (arith, e))))

      opens : Lead (at s p u) [] (extra image costs p + cost class.Loop) (at s head (counting u (suc m)))
      opens = unit-lead image costs (Turn s) p u [] (cost class.Loop) (at s head (counting u (suc m))) (loop-step image costs s (word_place image p) (half image p) u (suc m) l.0 (omega (arith, more)))

      goes-out : Lead (at s head (counting u 0)) [] (cost class.Next) (at s (q + 1) u)
      goes-out = word-lead image costs (Turn s) head (counting u 0) [] (cost class.Next) (at s (q + 1) u) (over-step image costs s head u (q + 1) l.1)

      leaves : Lead (at s head (counting u 1)) (true ∷ []) (leaving image costs p n i) (at s (q + 1) u)
      leaves =
          let v = counting u 0 in
          let a = at s head (counting u 1) in
          let c = at s (head + 1) v in
          let d = at s q v in
          let e = at s (q + 1) u in
          onward a c e [] (true ∷ []) (cost class.Next) ((R + cost class.Taken) + cost class.Drop) (word-lead image costs (Turn s) head (counting u 1) [] (cost class.Next) c (again-step image costs s head u (q + 1) 0 l.1))
          (onward c d e (true ∷ []) [] (R + cost class.Taken) (cost class.Drop) (taken s (head + 1) n i q v l.2 l.3)
          (word-lead image costs (Turn s) q v [] (cost class.Drop) e (drop-step image costs s q u 0 l.8)))

    crosses-out : Crossing image costs (Counted p m n i body q) (turns (suc m)) ((extra image costs p + cost class.Loop) + (suc m * W + cost class.Next))
    crosses-out = record {
      leads = λ s u room more.
          let less : length u.counters + 1 + counters_in body ≤ 136 = omega (arith, more) in
          retold (at s p u) (at s (q + 1) u) (turns (suc m) ++ []) (turns (suc m)) ((extra image costs p + cost class.Loop) + (suc m * W + cost class.Next)) (none-behind (turns (suc m)))
          (onward (at s p u) (at s head (counting u (suc m))) (at s (q + 1) u) [] (turns (suc m) ++ []) (extra image costs p + cost class.Loop) (suc m * W + cost class.Next) (opens s u room less)
          (onward (at s head (counting u (suc m))) (at s head (counting u 0)) (at s (q + 1) u) (turns (suc m)) [] (suc m * W) (cost class.Next) (many-turns s u room less (suc m) (suc m) 0 (omega arith)) (goes-out s u room less)));
    }

    crosses-leaving : Crossing image costs (Counted p m n i body q) (turns m ++ true ∷ []) ((extra image costs p + cost class.Loop) + (m * W + leaving image costs p n i))
    crosses-leaving = record {
      leads = λ s u room more.
          let less : length u.counters + 1 + counters_in body ≤ 136 = omega (arith, more) in
          onward (at s p u) (at s head (counting u (suc m))) (at s (q + 1) u) [] (turns m ++ true ∷ []) (extra image costs p + cost class.Loop) (m * W + leaving image costs p n i) (opens s u room less)
          (onward (at s head (counting u (suc m))) (at s head (counting u 1)) (at s (q + 1) u) (turns m) (true ∷ []) (m * W) (leaving image costs p n i) (many-turns s u room less m (suc m) 1 (omega arith)) (leaves s u room less));
    }

    crosses-counted : Crossing image costs (Counted p m n i body q)
        (if nat_le (suc m * W + cost class.Next) (m * W + leaving image costs p n i) then turns m ++ true ∷ [] else turns (suc m))
        ((extra image costs p + cost class.Loop) + max (suc m * W + cost class.Next) (m * W + leaving image costs p n i))
    crosses-counted = by (nat_le A B) refl
      where
        A : ℕ
        A = suc m * W + cost class.Next

        B : ℕ
        B = m * W + leaving image costs p n i

        by : (t : Bool) → nat_le A B ≡ t → Crossing image costs (Counted p m n i body q) (if t then turns m ++ true ∷ [] else turns (suc m)) ((extra image costs p + cost class.Loop) + max A B)
        by true e = crossing-same (Counted p m n i body q) (turns m ++ true ∷ []) _ _ (ap (λ z. extra image costs p + cost class.Loop + z) (second-greater A B e)) crosses-leaving
        by false e = crossing-same (Counted p m n i body q) (turns (suc m)) _ _ (ap (λ z. extra image costs p + cost class.Loop + z) (first-greater A B e)) crosses-out

  -- a loop with no test
  module _ (p m : ℕ) (body : Region) (q : ℕ) (l : IsLaid image (Repeated p m body q)) (b : ℕ) (way : List Bool) (inner : Crossing image costs body way b) where
    abbrev rounds : ℕ → List Bool
    rounds k = times k way

    abbrev V : ℕ
    V = plain_turn image costs body b

    module _ (s : ℕ) (u : State) (room : length u.links + links_in body ≤ 16) (more : length u.counters + 1 + counters_in body ≤ 136) where
      one-round : (k : ℕ) → Lead (at s (behind image p) (counting u (suc k))) way V (at s (behind image p) (counting u k))
      one-round k =
          let v = counting u k in
          let h = behind image p in
          let a = at s h (counting u (suc k)) in
          let d = at s (from body) v in
          let e = at s (to body) v in
          let f = at s h v in
          let size = longer u.counters k in
          retold a f (way ++ []) way V (none-behind way)
          (onward a d f [] (way ++ []) (cost class.Next) (b + (extra image costs (to body) + cost class.Jump))
          (ends-at a [] (cost class.Next) s (h + 1) (from body) v l.2 (word-lead image costs (Turn s) h (counting u (suc k)) [] (cost class.Next) (at s (h + 1) v) (again-step image costs s h u q k l.1)))
          (onward d e f way [] b (extra image costs (to body) + cost class.Jump) (inner.leads s v room (omega (arith, size, more))) (jumps s (to body) h v l.4)))

      many-rounds : (k : ℕ) → Lead (at s (behind image p) (counting u k)) (rounds k) (k * V) (at s (behind image p) (counting u 0))
      many-rounds zero = let w : 0 ≡ 0 * V = omega arith in as-is (at s (behind image p) (counting u 0)) (at s (behind image p) (counting u 0)) [] 0 (0 * V) w (no-lead image costs (at s (behind image p) (counting u 0)))
      many-rounds (suc k) =
          let h = behind image p in
          let w : V + k * V ≡ suc k * V = omega arith in
          as-is (at s h (counting u (suc k))) (at s h (counting u 0)) (rounds (suc k)) (V + k * V) (suc k * V) w
          (onward (at s h (counting u (suc k))) (at s h (counting u k)) (at s h (counting u 0)) way (rounds k) V (k * V) (one-round k) (many-rounds k))

      starts-off : Lead (at s p u) [] (extra image costs p + cost class.Loop) (at s (behind image p) (counting u (suc m)))
      starts-off = unit-lead image costs (Turn s) p u [] (cost class.Loop) (at s (behind image p) (counting u (suc m))) (loop-step image costs s (word_place image p) (half image p) u (suc m) l.0 (omega (arith, more)))

      ends-off : Lead (at s (behind image p) (counting u 0)) [] (cost class.Next) (at s q u)
      ends-off = word-lead image costs (Turn s) (behind image p) (counting u 0) [] (cost class.Next) (at s q u) (over-step image costs s (behind image p) u q l.1)

    crosses-repeated : Crossing image costs (Repeated p m body q) (rounds (suc m)) ((extra image costs p + cost class.Loop) + (suc m * V + cost class.Next))
    crosses-repeated = record {
      leads = λ s u room more.
          let less : length u.counters + 1 + counters_in body ≤ 136 = omega (arith, more) in
          let h = behind image p in
          retold (at s p u) (at s q u) (rounds (suc m) ++ []) (rounds (suc m)) ((extra image costs p + cost class.Loop) + (suc m * V + cost class.Next)) (none-behind (rounds (suc m)))
          (onward (at s p u) (at s h (counting u (suc m))) (at s q u) [] (rounds (suc m) ++ []) (extra image costs p + cost class.Loop) (suc m * V + cost class.Next) (starts-off s u room less)
          (onward (at s h (counting u (suc m))) (at s h (counting u 0)) (at s q u) (rounds (suc m)) [] (suc m * V) (cost class.Next) (many-rounds s u room less (suc m)) (ends-off s u room less)));
    }

  crosses-then : (x y : Region) (v w : List Bool) (m n : ℕ) → to x ≡ from y → Crossing image costs x v m → Crossing image costs y w n → Crossing image costs (Then x y) (v ++ w) (m + n)
  crosses-then x y v w m n e a b = record {
    leads = λ s u room more.
        onward (at s (from x) u) (at s (from y) u) (at s (to y) u) v w m n
        (ends-at (at s (from x) u) v m s (to x) (from y) u e (a.leads s u (omega (arith, room)) (omega (arith, more)))) (b.leads s u (omega (arith, room)) (omega (arith, more)));
  }

  crosses-first : (p n i : ℕ) (x y : Region) (v : List Bool) → IsLaid image (Choice p n i x y) → (t : ℕ) → Crossing image costs x v t →
      Crossing image costs (Choice p n i x y) (false ∷ v) ((units_cost image costs p n + extra image costs i) + (cost class.Untaken + (t + (extra image costs (to x) + cost class.Jump))))
  crosses-first p n i x y v l t a = record {
    leads = λ s u room more.
        let R = units_cost image costs p n + extra image costs i in
        let J = extra image costs (to x) + cost class.Jump in
        retold (at s p u) (at s (to y) u) (false ∷ (v ++ [])) (false ∷ v) (R + (cost class.Untaken + (t + J))) (ap (λ z. false ∷ z) (none-behind v))
        (as-is (at s p u) (at s (to y) u) (false ∷ (v ++ [])) ((R + cost class.Untaken) + (t + J)) (R + (cost class.Untaken + (t + J))) (omega arith)
        (onward (at s p u) (at s (from x) u) (at s (to y) u) (false ∷ []) (v ++ []) (R + cost class.Untaken) (t + J) (untaken s p n i (from y) (from x) u l.0 l.1 l.2)
        (onward (at s (from x) u) (at s (to x) u) (at s (to y) u) v [] t J (a.leads s u (omega (arith, room)) (omega (arith, more))) (jumps s (to x) (to y) u l.4))));
  }

  crosses-second : (p n i : ℕ) (x y : Region) (v : List Bool) → IsLaid image (Choice p n i x y) → (t : ℕ) → Crossing image costs y v t →
      Crossing image costs (Choice p n i x y) (true ∷ v) ((units_cost image costs p n + extra image costs i) + (cost class.Taken + t))
  crosses-second p n i x y v l t a = record {
    leads = λ s u room more.
        let R = units_cost image costs p n + extra image costs i in
        as-is (at s p u) (at s (to y) u) (true ∷ v) ((R + cost class.Taken) + t) (R + (cost class.Taken + t)) (omega arith)
        (onward (at s p u) (at s (from y) u) (at s (to y) u) (true ∷ []) v (R + cost class.Taken) t (taken s p n i (from y) u l.0 l.1) (a.leads s u (omega (arith, room)) (omega (arith, more))));
  }

  crosses-choice : (p n i : ℕ) (x y : Region) (v w : List Bool) → IsLaid image (Choice p n i x y) → (t r : ℕ) → Crossing image costs x v t → Crossing image costs y w r →
      Crossing image costs (Choice p n i x y) (if nat_le (cost class.Untaken + (t + (extra image costs (to x) + cost class.Jump))) (cost class.Taken + r) then true ∷ w else false ∷ v)
      ((units_cost image costs p n + extra image costs i) + max (cost class.Untaken + (t + (extra image costs (to x) + cost class.Jump))) (cost class.Taken + r))
  crosses-choice p n i x y v w l t r a b = by (nat_le A B) refl
    where
      A : ℕ
      A = cost class.Untaken + (t + (extra image costs (to x) + cost class.Jump))

      B : ℕ
      B = cost class.Taken + r

      R : ℕ
      R = units_cost image costs p n + extra image costs i

      by : (z : Bool) → nat_le A B ≡ z → Crossing image costs (Choice p n i x y) (if z then true ∷ w else false ∷ v) (R + max A B)
      by true e = crossing-same (Choice p n i x y) (true ∷ w) (R + B) (R + max A B) (ap (λ k. R + k) (second-greater A B e)) (crosses-second p n i x y w l r b)
      by false e = crossing-same (Choice p n i x y) (false ∷ v) (R + A) (R + max A B) (ap (λ k. R + k) (first-greater A B e)) (crosses-first p n i x y v l t a)

  crosses-call : (p : ℕ) (callee : Region) (w : List Bool) → IsLaid image (Calling p callee) → (t : ℕ) → Crossing image costs callee w t → Crossing image costs (Calling p callee) w (cost class.Call + (t + cost class.Ret))
  crosses-call p callee w l t a = record {
    leads = λ s u room more.
        let v : State = record u { links = u.links ++ (p + 1) ∷ [] } in
        let size = longer u.links (p + 1) in
        retold (at s p u) (at s (p + 1) u) (w ++ []) w (cost class.Call + (t + cost class.Ret)) (none-behind w)
        (onward (at s p u) (at s (from callee) v) (at s (p + 1) u) [] (w ++ []) (cost class.Call) (t + cost class.Ret)
        (word-lead image costs (Turn s) p u [] (cost class.Call) (at s (from callee) v) (call-step image costs s p u (from callee) l.0 (omega (arith, room))))
        (onward (at s (from callee) v) (at s (to callee) v) (at s (p + 1) u) w [] t (cost class.Ret) (a.leads s v (omega (arith, size, room)) more)
        (word-lead image costs (Turn s) (to callee) v [] (cost class.Ret) (at s (p + 1) u) (ret-step image costs s (to callee) u (p + 1) l.2))));
  }

  abbrev way_of : Region → List Bool
  way_of r = dearest_way image costs r

  abbrev way_cost : Region → ℕ
  way_cost r = through image costs r

  pub crosses : (r : Region) → IsLaid image r → Crossing image costs r (dearest_way image costs r) (through image costs r)
  crosses (Words p n q) l = record { leads = λ s u room more. units-lead image costs (Turn s) n p q u l }
  crosses (Then x y) l = crosses-then x y (way_of x) (way_of y) (way_cost x) (way_cost y) l.2 (crosses x l.0) (crosses y l.1)
  crosses (Choice p n i x y) l = crosses-choice p n i x y (way_of x) (way_of y) l (way_cost x) (way_cost y) (crosses x l.3) (crosses y l.6)
  crosses (Counted p m n i body q) l = crosses-counted p m n i body q l (way_cost body) (way_of body) (crosses body l.5)
  crosses (Repeated p m body q) l = crosses-repeated p m body q l (way_cost body) (way_of body) (crosses body l.3)
  crosses (Calling p callee) l = crosses-call p callee (way_of callee) l (way_cost callee) (crosses callee l.1)

  pub crossing-passage : (r : Region) → IsLaid image r → 1 ≤ through image costs r → links_in r ≤ 16 → counters_in r ≤ 136 → Passage image costs (from r) (through image costs r) (to r)
  crossing-passage r l one few less =
      let c = crosses r l in
      record {
        costs_one = one;
        choices = dearest_way image costs r;
        leads = λ s u flat.
            let a : length u.links ≡ 0 = ap (λ (x : List ℕ). length x) flat.0 in
            let b : length u.counters ≡ 0 = ap (λ (x : List ℕ). length x) flat.1 in
            c.leads s u (omega (arith, few, a)) (omega (arith, less, b));
      }
