-- A number under the middle of a context stands nowhere else in it.
use Rattle.std.proofs.Common.{◌≡◌, ℕ, ◌+◌, ◌<◌, ◌≤◌, ◌==◌, true, false, [], ◌∷◌, sym, ap, ◌∙◌, arith}
use Rattle.std.proofs.lemmas.Bool.Decides.{nat_tests}
use Rattle.mb_pfu.specs.Rows.{numbered}
use Rattle.mb_pfu.specs.Tree.{Tree, Group, Leaf, Waits, no_more, member, size, is_in, is_among}
use Rattle.mb_pfu.specs.Contexts.{Context, middle, IsQuietBefore}
use Rattle.mb_pfu.proofs.Cases.{split}
use Rattle.pc_lower.specs.Slots.{Outside, IsChild, Under, self, deeper, Fits, FitsGroup, IsFitted, IsGood}

pub same-of : (k q : ℕ) → (k == q) ≡ true → q ≡ k
same-of k q h = grind (arith, nat_tests)

pub other-of : (k q : ℕ) → (q ≡ k → ⊥) → (k == q) ≡ false
other-of k q h = split (k == q) (λ e. absurd (h (same-of k q e))) (λ e. e)

module _ (parent : ℕ → ℕ) where
  pub under-least : (s q : ℕ) → Under parent s q → s ≤ q
  under-least s q (self {q = x} e) = omega arith
  under-least s q (deeper {q = x} l u) = omega (arith, under-least s (parent x) u)

  pub under-raise : (k c q : ℕ) → IsChild parent k c → Under parent c q → Under parent k q
  under-raise k c q child (self {q = x} e) = deeper (let h : parent x ≡ parent c = ap parent e in omega (arith, h, child.0, child.1, e)) (self (ap parent e ∙ child.0))
  under-raise k c q child (deeper {q = x} l u) = deeper l (under-raise k c (parent x) child u)

  pub apart : (k c d q : ℕ) → IsChild parent k c → IsChild parent k d → (c ≡ d → ⊥) → Under parent c q → Under parent d q → ⊥
  apart k c d q p r diff (self {q = x} e) (self {q = y} f) = diff (sym e ∙ f)
  apart k c d q p r diff (self {q = x} e) (deeper {q = y} l u) =
      let a : d ≤ parent y = under-least d (parent y) u in
      let b : parent y ≡ parent c = ap parent e in
      absurd (omega (arith, a, b, p.0, r.1))
  apart k c d q p r diff (deeper {q = x} l u) (self {q = y} f) =
      let a : c ≤ parent x = under-least c (parent x) u in
      let b : parent x ≡ parent d = ap parent f in
      absurd (omega (arith, a, b, r.0, p.1))
  apart k c d q p r diff (deeper {q = x} l u) (deeper {q = y} m v) = apart k c d (parent x) p r diff u v

  pub record InGroup (k lo n q : ℕ) : Type 0 where
    pub child : ℕ
    pub is : IsChild parent k child
    pub under : Under parent child q
    pub from : lo ≤ child
    pub to : child < lo + n

  mutual
    pub inside : (t : Tree) (k q : ℕ) → Fits parent k t → is_in (numbered q) k t ≡ true → Under parent k q
    inside (Leaf watches activity) k q fit h = self (same-of k q h)
    inside (Waits watches at lo group) k q fit h =
        split (k == q) (λ e. self (same-of k q e))
        (λ e. let r = inside-group group k lo q fit (rw e at h) in under-raise k r.child q r.is r.under)

    pub inside-group : (ts : Group) (k lo q : ℕ) → FitsGroup parent k lo ts → is_among (numbered q) lo ts ≡ true → InGroup k lo (size ts) q
    inside-group no_more k lo q fit h = cc
    inside-group (member t ts) k lo q fit h =
        split (is_in (numbered q) lo t)
        (λ e. record { child = lo; is = fit.0; under = inside t lo q fit.1 e; from = omega arith; to = omega arith })
        (λ e.
        let r = inside-group ts k (lo + 1) q fit.2 (rw e at h) in
        record { child = r.child; is = r.is; under = r.under; from = omega (arith, r.from); to = omega (arith, r.to) })

  pub outside-fitted : (context : Context) (q : ℕ) → IsFitted parent context → Under parent (middle context) q → Outside q context
  outside-fitted [] q good u = tt
  outside-fitted (f ∷ fs) q good u =
      let c : ℕ = f.lo + size f.before in (
        other-of (middle fs) q (λ e. omega (arith, e, under-least c q u, good.1.1)),
        split (is_among (numbered q) f.lo f.before)
            (λ e. let r = inside-group f.before (middle fs) f.lo q good.0 e in absurd (apart (middle fs) c r.child q good.1 r.is (λ d. omega (arith, d, r.to)) u r.under))
            (λ e. e),
        split (is_among (numbered q) (f.lo + size f.before + 1) f.behind)
            (λ e. let r = inside-group f.behind (middle fs) (f.lo + size f.before + 1) q good.2 e in absurd (apart (middle fs) c r.child q good.1 r.is (λ d. omega (arith, d, r.from)) u r.under))
            (λ e. e),
        outside-fitted fs q good.3 (under-raise (middle fs) c q good.1 u),
      )

  pub fitted : (context : Context) → IsGood parent context → IsFitted parent context
  fitted [] good = tt
  fitted (f ∷ fs) good = (good.1, good.2, good.3, fitted fs good.4)

  pub outside : (context : Context) (q : ℕ) → IsGood parent context → Under parent (middle context) q → Outside q context
  outside context q good u = outside-fitted context q (fitted context good) u

  pub quiet-before : (context : Context) → IsGood parent context → IsQuietBefore context
  quiet-before [] good = tt
  quiet-before (f ∷ fs) good = (good.0, quiet-before fs good.4)
