-- Each thread of a program is started in one place.
use Rattle.std.proofs.Common.{◌≡◌, ℕ, zero, suc, ◌+◌, ◌*◌, ◌<◌, ◌≤◌, ◌==◌, Bool, true, false, if◌then◌else◌, List, [], ◌∷◌, ◌++◌, map, length, Some, refl, sym, ap, subst, ◌∙◌, append_assoc, append-nil, length-append, arith}
use Rattle.std.specs.Prelude.{Contains, slice_get}
use Rattle.std.specs.List.{AllByRecursion}
use Rattle.pt_base.proofs.Elements.{in_head, in_left, in_right}
use Rattle.pc_grammar.specs.declared.typed.Function.{Function}
use Rattle.pc_grammar.specs.Uses.{joined}
use Rattle.pc_grammar.specs.Typing.{Typing}
use Rattle.pc_grammar.specs.Keeping.{IsTyped}
use Rattle.pc_grammar.specs.Meant.{starts_in, function_uses, started, IsOnce}
use Rattle.pc_grammar.proofs.Scalars.{means_well}
use Rattle.pc_grammar.proofs.FirstPassing.{get_seam}
use Rattle.pc_rules.specs.Judging.{IsWithin}
use Rattle.pc_lower.specs.StepCounts.{total_of}
use Rattle.pc_lower.specs.Limits.{started_by, times_in, times_below, sum_below}
use Rattle.pc_lower.proofs.RegionThreads.{total-append, times-append, total-without, times-without, all-without, below-without, picked}
use Rattle.pc_lower.proofs.Slots.{same-of}
use Rattle.pc_lower.proofs.Starts.{starts-append, function-starts}
use Rattle.pc_lower.proofs.FlowProgram.{rooms, numbers, flow, long, started-is}

-- ---- a list in which no number stands twice

once-as : (front ns : List ℕ) (x : ℕ) → IsOnce (front ++ x ∷ ns) → IsOnce ((front ++ x ∷ []) ++ ns)
once-as front ns x once = subst IsOnce (sym (append_assoc front (x ∷ []) ns)) once

not-again : (q : ℕ) (ns front : List ℕ) → IsOnce (front ++ ns) → Contains front q → times_in q ns ≡ 0
not-again q [] front once there = refl
not-again q (x ∷ ns) front once there = by (q == x) refl (not-again q ns (front ++ x ∷ []) (once-as front ns x once) (in_left front (x ∷ []) q there))
  where
    by : (b : Bool) → (q == x) ≡ b → times_in q ns ≡ 0 → (if b then 1 else 0) + times_in q ns ≡ 0
    by true e h = let s : x ≡ q = same-of q x e in absurd (once front ns x refl (subst (Contains front) (sym s) there))
    by false e h = omega (arith, h)

at-most-once : (q : ℕ) (ns front : List ℕ) → IsOnce (front ++ ns) → times_in q ns ≤ 1
at-most-once q [] front once = omega arith
at-most-once q (x ∷ ns) front once =
    by (q == x) refl (λ there. not-again q ns (front ++ x ∷ []) (once-as front ns x once) there) (at-most-once q ns (front ++ x ∷ []) (once-as front ns x once))
  where
    by : (b : Bool) → (q == x) ≡ b → (Contains (front ++ x ∷ []) q → times_in q ns ≡ 0) → times_in q ns ≤ 1 → (if b then 1 else 0) + times_in q ns ≤ 1
    by true e h k =
        let s : x ≡ q = same-of q x e in
        let z = h (in_right front (x ∷ []) q (subst (Contains (x ∷ [])) s (in_head x []))) in
        omega (arith, z)
    by false e h k = omega (arith, k)

-- ---- sums over lists in which no number stands twice

module _ (is_one : ℕ → Bool) (worth : ℕ → ℕ) where
  abbrev pub bound : ℕ → ℕ
  bound zero = 0
  bound (suc n) = bound n + (if is_one n then worth n else 0)

  pub distinct-sum : (n : ℕ) (xs : List ℕ) → AllByRecursion (λ x. x < n) xs → AllByRecursion (λ x. is_one x ≡ true) xs → ((q : ℕ) → times_in q xs ≤ 1) → total_of worth xs ≤ bound n
  distinct-sum zero [] below ones once = omega arith
  distinct-sum zero (x ∷ xs) below ones once = absurd (omega (arith, below.0))
  distinct-sum (suc n) xs below ones once =
      by (times_in n xs) refl (distinct-sum n (without-n) (below-without n xs below) (all-without (λ x. is_one x ≡ true) n xs ones) (λ q. let s = times-without q n xs in let o = once q in omega (arith, s, o)))
    where
      without-n : List ℕ
      without-n = Rattle.pc_lower.proofs.RegionThreads.without n xs

      by : (k : ℕ) → times_in n xs ≡ k → total_of worth (Rattle.pc_lower.proofs.RegionThreads.without n xs) ≤ bound n → total_of worth xs ≤ bound n + (if is_one n then worth n else 0)
      by zero is next =
          let a = total-without worth n xs in
          let b : times_in n xs * worth n ≡ 0 = ap (λ m. m * worth n) is ∙ omega arith in
          omega (arith, a, b, next)
      by (suc zero) is next =
          let a = total-without worth n xs in
          let b : times_in n xs * worth n ≡ worth n = ap (λ m. m * worth n) is ∙ omega arith in
          let mine : is_one n ≡ true = picked (λ x. is_one x ≡ true) n xs ones (omega (arith, is)) in
          let c : (if is_one n then worth n else 0) ≡ worth n = ap (λ t. if t then worth n else 0) mine in
          omega (arith, a, b, c, next)
      by (suc (suc k)) is next = let o = once n in absurd (omega (arith, o, is))

-- ---- what the functions of a program start

module _ (t : Typing) (typed : IsTyped t) (within : IsWithin t) where
  abbrev starts : ℕ → List ℕ
  starts g = started_by (flow t typed within).bodies g

  abbrev named : List Function → List ℕ
  named fs = starts_in (joined (map function_uses fs))

  named-append : (front : List Function) (x : Function) → named (front ++ x ∷ []) ≡ named front ++ starts_in (function_uses x)
  named-append [] x = ap starts_in (append-nil (function_uses x))
  named-append (y ∷ front) x =
      starts-append (function_uses y) (joined (map function_uses (front ++ x ∷ []))) ∙ ap (λ l. starts_in (function_uses y) ++ l) (named-append front x)
      ∙ sym (append_assoc (starts_in (function_uses y)) (named front) (starts_in (function_uses x)))
      ∙ ap (λ l. l ++ starts_in (function_uses x)) (sym (starts-append (function_uses y) (joined (map function_uses front))))

  -- a function by its number starts what it names
  starts-are : (front : List Function) (x : Function) (rest : List Function) → front ++ x ∷ rest ≡ t.functions → starts (length front) ≡ starts_in (function_uses x)
  starts-are front x rest e =
      let there : slice_get t.functions (length front) ≡ Some x = ap (λ l. slice_get l (length front)) (sym e) ∙ get_seam front rest x in
      started-is t typed within (length front) x there ∙ sym (function-starts (rooms t typed within) (numbers t typed within) x)

  -- all that they start is worth what is named
  sum-upto : (worth : ℕ → ℕ) (rest front : List Function) → front ++ rest ≡ t.functions → sum_below starts worth (length front) ≡ total_of worth (named front) → sum_below starts worth (length t.functions) ≡ total_of worth (named t.functions)
  sum-upto worth [] front e h =
      let same : front ≡ t.functions = sym (append-nil front) ∙ e in
      subst (λ fs. sum_below starts worth (length fs) ≡ total_of worth (named fs)) same h
  sum-upto worth (x ∷ rest) front e h =
      let grown : length (front ++ x ∷ []) ≡ suc (length front) = (let a = length-append front (x ∷ []) in omega (arith, a)) in
      let one = ap (total_of worth) (starts-are front x rest e) in
      let all = ap (total_of worth) (named-append front x) ∙ total-append worth (named front) (starts_in (function_uses x)) in
      let next : sum_below starts worth (suc (length front)) ≡ total_of worth (named (front ++ x ∷ [])) = omega (arith, h, one, all) in
      sum-upto worth rest (front ++ x ∷ []) (append_assoc front (x ∷ []) rest ∙ e) (subst (λ m. sum_below starts worth m ≡ total_of worth (named (front ++ x ∷ []))) (sym grown) next)

  pub sum-all : (worth : ℕ → ℕ) → sum_below starts worth (length (flow t typed within).bodies) ≡ total_of worth (started t)
  sum-all worth = ap (sum_below starts worth) (long t typed within) ∙ sum-upto worth t.functions [] refl refl

  abbrev marked : ℕ → ℕ → ℕ
  marked q x = if q == x then 1 else 0

  times-total : (q : ℕ) (xs : List ℕ) → times_in q xs ≡ total_of (marked q) xs
  times-total q [] = refl
  times-total q (x ∷ xs) = ap (λ k. marked q x + k) (times-total q xs)

  times-below-total : (q n : ℕ) → times_below starts q n ≡ sum_below starts (marked q) n
  times-below-total q zero = refl
  times-below-total q (suc n) = let a = times-below-total q n in let b = times-total q (starts n) in omega (arith, a, b)

  pub all-once : (q : ℕ) → times_in q (t.main ∷ started t) ≤ 1
  all-once q = at-most-once q (t.main ∷ started t) [] (means_well t typed).once

  pub once : (q : ℕ) → times_in q (t.main ∷ []) + times_below starts q (length (flow t typed within).bodies) ≤ 1
  once q =
      let a = times-below-total q (length (flow t typed within).bodies) in
      let b = sum-all (marked q) in
      let c = times-total q (started t) in
      let d = all-once q in
      let e = times-append q (t.main ∷ []) (started t) in
      omega (arith, a, b, c, d, e)
