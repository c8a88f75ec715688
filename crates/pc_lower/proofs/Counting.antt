-- No function of a program runs in two slots, and there are 64 slots at most.
use Rattle.std.proofs.Common.{◌≡◌, ◌⊎◌, ℕ, zero, suc, ◌+◌, ◌*◌, ◌-◌, ◌<◌, ◌≤◌, ◌==◌, Bool, true, false, if◌then◌else◌, cond, List, [], ◌∷◌, ◌++◌, map, length, Option, Some, None, inl, inr, ⊎_elim, refl, sym, ap, subst, ◌∙◌, append_assoc, append-nil, length-append, arith, eq-eqb}
use Rattle.std.specs.Prelude.{slice_get, slice_index_or, count_by}
use Rattle.std.specs.List.{AllByRecursion}
use Rattle.std.proofs.lemmas.List.Sums.{sum_by-cons}
use Rattle.pc_grammar.specs.declared.typed.Function.{Function}
use Rattle.pc_grammar.specs.Typing.{Typing}
use Rattle.pc_grammar.specs.Keeping.{IsTyped}
use Rattle.pc_grammar.proofs.FirstPassing.{get_seam}
use Rattle.pc_rules.specs.Weights.{thread_sum}
use Rattle.pc_rules.specs.Judging.{threads as too_many_threads, IsWithin}
use Rattle.pc_lower.specs.Flow.{Node}
use Rattle.pc_lower.specs.StepCounts.{total_of}
use Rattle.pc_lower.specs.Limits.{started_by, times_in, times_below}
use Rattle.pc_lower.specs.Program.{InOrder}
use Rattle.pc_lower.specs.Numbering.{all_started, slots_of, function_of}
use Rattle.pc_lower.proofs.Earlier.{below-or-past}
use Rattle.pc_lower.proofs.Numbering.{slots-are, starts-below}
use Rattle.pc_lower.proofs.RegionThreads.{total-append, times-append, all-as, total-without, times-without, below-without}
use Rattle.pc_lower.proofs.Slots.{same-of}
use Rattle.pc_meaning.specs.Programs.{program_of}
use Rattle.pc_lower.proofs.Order.{flow-in-order}
use Rattle.pc_lower.proofs.Functions.{there-below}
use Rattle.pc_lower.proofs.Once.{bound, distinct-sum, once}
use Rattle.pc_lower.proofs.FlowProgram.{flow, fit, long, main-there, IsThread, slots-threads}

-- ---- a sum over a list, where what counts stands once

module _ (starts : ℕ → List ℕ) (q : ℕ) where
  abbrev share : ℕ → ℕ
  share x = times_in q (starts x)

  shared-sum : (n : ℕ) (xs : List ℕ) → AllByRecursion (λ x. x < n) xs → ((x : ℕ) → (share x ≡ 0) ⊎ (times_in x xs ≤ 1)) → total_of share xs ≤ times_below starts q n
  shared-sum zero [] below few = omega arith
  shared-sum zero (x ∷ xs) below few = absurd (omega (arith, below.0))
  shared-sum (suc n) xs below few =
      by (few n) (shared-sum n (Rattle.pc_lower.proofs.RegionThreads.without n xs) (below-without n xs below) (λ x. ⊎_elim (λ none. inl none) (λ one. inr (let s = times-without x n xs in omega (arith, s, one))) (few x)))
    where
      by : (share n ≡ 0) ⊎ (times_in n xs ≤ 1) → total_of share (Rattle.pc_lower.proofs.RegionThreads.without n xs) ≤ times_below starts q n → total_of share xs ≤ times_below starts q n + times_in q (starts n)
      by (inl none) next =
          let a = total-without share n xs in
          let b : times_in n xs * share n ≡ 0 = ap (λ m. times_in n xs * m) none ∙ omega arith in
          omega (arith, a, b, next)
      by (inr one) next =
          let a = total-without share n xs in
          let b : times_in n xs * share n ≤ 1 * share n = Rattle.std.proofs.Common.mul-le-mul_right (share n) one in
          omega (arith, a, b, next)

times-all : (bodies : List Node) (q : ℕ) (fs : List ℕ) → times_in q (all_started bodies fs) ≡ total_of (λ x. times_in q (started_by bodies x)) fs
times-all bodies q [] = refl
times-all bodies q (f ∷ fs) = let a = times-append q (started_by bodies f) (all_started bodies fs) in let b = times-all bodies q fs in omega (arith, a, b)

none-there : (q : ℕ) (xs : List ℕ) (n : ℕ) → AllByRecursion (λ x. x < n) xs → n ≤ q → times_in q xs ≡ 0
none-there q [] n below le = refl
none-there q (x ∷ xs) n below le = by (q == x) refl (none-there q xs n below.1 le)
  where
    by : (b : Bool) → (q == x) ≡ b → times_in q xs ≡ 0 → (if b then 1 else 0) + times_in q xs ≡ 0
    by true e h = let s : x ≡ q = same-of q x e in absurd (omega (arith, s, below.0, le))
    by false e h = omega (arith, h)

-- ---- a list in which each number stands once

abbrev one-if : Bool → ℕ
one-if b = if b then 1 else 0

some-times : (q : ℕ) (xs : List ℕ) (c : ℕ) → c < length xs → slice_index_or xs c 0 ≡ q → 1 ≤ times_in q xs
some-times q [] c less is = absurd (omega (arith, less))
some-times q (x ∷ xs) zero less is = let e : (q == x) ≡ true = eq-eqb q x (sym is) in let s : one-if (q == x) ≡ 1 = ap one-if e in omega (arith, s)
some-times q (x ∷ xs) (suc c) less is = let r = some-times q xs c (omega (arith, less)) is in omega (arith, r)

pub one-place : (q : ℕ) (xs : List ℕ) (c d : ℕ) → times_in q xs ≤ 1 → c < length xs → d < length xs → slice_index_or xs c 0 ≡ q → slice_index_or xs d 0 ≡ q → c ≡ d
one-place q [] c d few lc ld ic id = absurd (omega (arith, lc))
one-place q (x ∷ xs) zero zero few lc ld ic id = refl
one-place q (x ∷ xs) zero (suc d) few lc ld ic id =
    let e : (q == x) ≡ true = eq-eqb q x (sym ic) in
    let s : one-if (q == x) ≡ 1 = ap one-if e in
    let r = some-times q xs d (omega (arith, ld)) id in
    absurd (omega (arith, s, r, few))
one-place q (x ∷ xs) (suc c) zero few lc ld ic id =
    let e : (q == x) ≡ true = eq-eqb q x (sym id) in
    let s : one-if (q == x) ≡ 1 = ap one-if e in
    let r = some-times q xs c (omega (arith, lc)) ic in
    absurd (omega (arith, s, r, few))
one-place q (x ∷ xs) (suc c) (suc d) few lc ld ic id = ap suc (one-place q xs c d (omega (arith, few)) (omega (arith, lc)) (omega (arith, ld)) ic id)

-- ---- how many threads there are

abbrev pub flag : List Function → ℕ → Bool
flag [] i = false
flag (f ∷ fs) zero = f.thread
flag (f ∷ fs) (suc i) = flag fs i

pub flag-there : (fs : List Function) (i : ℕ) (f : Function) → slice_get fs i ≡ Some f → flag fs i ≡ f.thread
flag-there [] i f there = cc
flag-there (x ∷ fs) zero f there = let e : x ≡ f = cc in ap (λ (y : Function). y.thread) e
flag-there (x ∷ fs) (suc i) f there = flag-there fs i f there

thread-append : (front : List Function) (sizes : List ℕ) (x : Function) (s : ℕ) → length front ≡ length sizes → thread_sum (front ++ x ∷ []) (sizes ++ s ∷ []) ≡ thread_sum front sizes + (if x.thread then s else 0)
thread-append [] [] x s e = omega arith
thread-append [] (n ∷ sizes) x s e = absurd (omega (arith, e))
thread-append (f ∷ front) [] x s e = absurd (omega (arith, e))
thread-append (f ∷ front) (n ∷ sizes) x s e = let r = thread-append front sizes x s (omega (arith, e)) in omega (arith, r)

module _ (fs : List Function) (sizes : List ℕ) where
  abbrev size : ℕ → ℕ
  size i = slice_index_or sizes i 0

  sum-upto : (rest front : List Function) (more known : List ℕ) → front ++ rest ≡ fs → known ++ more ≡ sizes → length front ≡ length known → length rest ≡ length more →
      bound (flag fs) size (length front) ≡ thread_sum front known → bound (flag fs) size (length fs) ≡ thread_sum fs sizes
  sum-upto [] front [] known e d l k h =
      let a : front ≡ fs = sym (append-nil front) ∙ e in
      let b : known ≡ sizes = sym (append-nil known) ∙ d in
      ap (λ l. bound (flag fs) size (length l)) (sym a) ∙ h ∙ ap (λ l. thread_sum l known) a ∙ ap (thread_sum fs) b
  sum-upto [] front (s ∷ more) known e d l k h = absurd (omega (arith, k))
  sum-upto (x ∷ rest) front [] known e d l k h = absurd (omega (arith, k))
  sum-upto (x ∷ rest) front (s ∷ more) known e d l k h =
      let there : slice_get fs (length front) ≡ Some x = ap (λ l. slice_get l (length front)) (sym e) ∙ get_seam front rest x in
      let mark = flag-there fs (length front) x there in
      let own : size (length front) ≡ s = ap (λ l. slice_index_or l (length front) 0) (sym d) ∙ ap (λ i. slice_index_or (known ++ s ∷ more) i 0) l ∙ Rattle.std.proofs.Math.Seq.get_or-append_seam known s more 0 in
      let grown : length (front ++ x ∷ []) ≡ suc (length front) = (let a = length-append front (x ∷ []) in omega (arith, a)) in
      let long : length (known ++ s ∷ []) ≡ suc (length known) = (let a = length-append known (s ∷ []) in omega (arith, a)) in
      let term : (if flag fs (length front) then size (length front) else 0) ≡ (if x.thread then s else 0) = ap (λ (b : Bool). if b then size (length front) else 0) mark ∙ ap (λ n. if x.thread then n else 0) own in
      let next : bound (flag fs) size (suc (length front)) ≡ thread_sum (front ++ x ∷ []) (known ++ s ∷ []) = (let a = thread-append front known x s l in omega (arith, h, term, a)) in
      sum-upto rest (front ++ x ∷ []) more (known ++ s ∷ []) (append_assoc front (x ∷ []) rest ∙ e) (append_assoc known (s ∷ []) more ∙ d) (omega (arith, grown, long, l)) (omega (arith, k))
      (subst (λ m. bound (flag fs) size m ≡ thread_sum (front ++ x ∷ []) (known ++ s ∷ [])) (sym grown) next)

  pub threads-sum : length fs ≡ length sizes → bound (flag fs) size (length fs) ≡ thread_sum fs sizes
  threads-sum e = sum-upto fs [] sizes [] refl refl refl e refl

bound-mono : (is_one : ℕ → Bool) (worth other : ℕ → ℕ) (n : ℕ) → ((i : ℕ) → i < n → worth i ≤ other i) → bound is_one worth n ≤ bound is_one other n
bound-mono is_one worth other zero h = omega arith
bound-mono is_one worth other (suc n) h = by (is_one n) (bound-mono is_one worth other n (λ i less. h i (omega (arith, less)))) (h n (omega arith))
  where
    by : (b : Bool) → bound is_one worth n ≤ bound is_one other n → worth n ≤ other n → bound is_one worth n + (if b then worth n else 0) ≤ bound is_one other n + (if b then other n else 0)
    by true p q = omega (arith, p, q)
    by false p q = omega (arith, p)

abbrev ones : List Function → List ℕ
ones [] = []
ones (f ∷ fs) = 1 ∷ ones fs

ones-long : (fs : List Function) → length fs ≡ length (ones fs)
ones-long [] = refl
ones-long (f ∷ fs) = ap suc (ones-long fs)

ones-are : (fs : List Function) (i : ℕ) → i < length fs → slice_index_or (ones fs) i 0 ≡ 1
ones-are [] i less = absurd (omega (arith, less))
ones-are (f ∷ fs) zero less = refl
ones-are (f ∷ fs) (suc i) less = ones-are fs i (omega (arith, less))

counted : (fs : List Function) → thread_sum fs (ones fs) ≡ count_by (λ f. f.thread) fs
counted [] = refl
counted (f ∷ fs) = ap (λ n. (if f.thread then 1 else 0) + n) (counted fs) ∙ sym (sum_by-cons (λ (x : Function). cond x.thread 1 0) f fs)

one-each : (xs : List ℕ) → total_of (λ x. 1) xs ≡ length xs
one-each [] = refl
one-each (x ∷ xs) = let r = one-each xs in omega (arith, r)

-- ---- an accepted program

module _ (t : Typing) (typed : IsTyped t) (within : IsWithin t) where
  abbrev bodies : List Node
  bodies = (flow t typed within).bodies

  abbrev slots : List ℕ
  slots = slots_of (flow t typed within)

  abbrev N : ℕ
  N = length t.functions

  order : InOrder 0 bodies
  order = flow-in-order (program_of t) (fit t typed within)

  slots-equal : slots ≡ t.main ∷ all_started bodies slots
  slots-equal = slots-are (flow t typed within) order (main-there t typed within)

  thread-below : (x : ℕ) → IsThread t typed within x → x < N
  thread-below x h = there-below t.functions x h.0 h.1

  thread-flag : (x : ℕ) → IsThread t typed within x → flag t.functions x ≡ true
  thread-flag x h = flag-there t.functions x h.0 h.1 ∙ h.2

  slots-below : AllByRecursion (λ x. x < N) slots
  slots-below = all-as (IsThread t typed within) (λ x. x < N) slots thread-below (slots-threads t typed within)

  abbrev starts : ℕ → List ℕ
  starts x = started_by bodies x

  times-slots : (n q : ℕ) → N ≤ n + q → times_in q slots ≤ 1
  times-slots zero q most = let z = none-there q slots N slots-below (omega (arith, most)) in omega (arith, z)
  times-slots (suc n) q most =
      let a = ap (times_in q) slots-equal in
      let b = times-all bodies q slots in
      let c = shared-sum starts q N slots slots-below (λ x. ⊎_elim (λ (less : q < x). inr (times-slots n x (omega (arith, most, less)))) (λ (past : x ≤ q). inl (none-there q (starts x) x (starts-below bodies order x) past)) (below-or-past q x)) in
      let d = once t typed within q in
      let l = ap (times_below starts q) (long t typed within) in
      let e = times-append q (t.main ∷ []) (all_started bodies slots) in
      omega (arith, a, b, c, d, l, e)

  pub slots-once : (c d : ℕ) → c < length slots → d < length slots → function_of (flow t typed within) c ≡ function_of (flow t typed within) d → c ≡ d
  slots-once c d lc ld same =
      let q = function_of (flow t typed within) d in
      one-place q slots c d (times-slots N q (omega arith)) lc ld same refl

  -- what threads are worth, in a list in which each stands once
  pub threads-worth : (worth : ℕ → ℕ) (xs : List ℕ) → AllByRecursion (IsThread t typed within) xs → ((q : ℕ) → times_in q xs ≤ 1) → total_of worth xs ≤ bound (flag t.functions) worth N
  threads-worth worth xs all few =
      distinct-sum (flag t.functions) worth N xs (all-as (IsThread t typed within) (λ x. x < N) xs thread-below all) (all-as (IsThread t typed within) (λ x. flag t.functions x ≡ true) xs thread-flag all) few

  pub few-threads : bound (flag t.functions) (λ x. 1) N ≤ 64
  few-threads =
      let a = bound-mono (flag t.functions) (λ x. 1) (λ i. slice_index_or (ones t.functions) i 0) N (λ i less. let e = ones-are t.functions i less in omega (arith, e)) in
      let b = threads-sum t.functions (ones t.functions) (ones-long t.functions) in
      let c = counted t.functions in
      ⊎_elim (λ (many : 64 < count_by (λ (f : Function). f.thread) t.functions). absurd (within.limits _ _ (too_many_threads many))) (λ few. omega (arith, a, b, c, few)) (below-or-past 64 (count_by (λ (f : Function). f.thread) t.functions))

  pub slots-few : length slots ≤ 64
  slots-few =
      let a = one-each slots in
      let b = threads-worth (λ x. 1) slots (slots-threads t typed within) (λ q. times-slots N q (omega arith)) in
      omega (arith, a, b, few-threads)
