-- The weights of a program's loops stand in the order of their places, so each is found.
use Rattle.std.proofs.Common.{◌≡◌, ◌≤◌, ◌+◌, ◌++◌, ◌==◌, ℕ, ℤ, zero, suc, true, false, if◌then◌else◌, List, [], ◌∷◌, Option, Some, None, refl, ap, ◌∙◌, subst, inl, inr, ⊎_elim, arith}
use Rattle.std.proofs.lemmas.Bool.Decides.{nat_tests}
use Rattle.pt_image.specs.declared.Parts.{Parts}
use Rattle.tk_cert.specs.declared.cert.CertParts.{CertParts}
use Rattle.tk_cert.specs.Shapes.{RiseFrom}
use Rattle.tk_paths.specs.Shape.{weight_in}
use Rattle.tk_paths.proofs.Lists.{IsAmong}
use Rattle.tk_paths.proofs.Accepts.{among-left, among-right}
use Rattle.tk_paths.specs.Regions.{Region, Words, Then, Choice, Counted, Repeated, Calling, from, to, behind_half, half, word_place, behind, AreUnits, IsLaid}
use Rattle.tk_paths.specs.Codes.{Code, Passed, Sequence, Either, Turns, Forever, Resting, Forking, Guarded, entry, exit, IsLaidIn}
use Rattle.tk_paths.specs.Numbers.{tested_weight, plain_weight, region_weights, code_weights}
use Rattle.tk_paths.proofs.RegionLaws.{AreWeighed}
use Rattle.tk_paths.proofs.CodeLaws.{AreWeighedIn}

-- the places rise, the first isn't below a place, and all are below another
abbrev pub RisesTo : ℕ → List (ℕ × ℕ) → ℕ → Type 0
RisesTo p [] q = p ≤ q
RisesTo p (w ∷ ws) q = (p ≤ w.0) × RisesTo (w.0 + 1) ws q

pub rises-below : (p o q : ℕ) (ws : List (ℕ × ℕ)) → o ≤ p → RisesTo p ws q → RisesTo o ws q
rises-below p o q [] e h = omega (arith, e, h)
rises-below p o q (w ∷ ws) e h = (let x = h.0 in omega (arith, e, x), h.1)

pub rises-above : (p q r : ℕ) (ws : List (ℕ × ℕ)) → q ≤ r → RisesTo p ws q → RisesTo p ws r
rises-above p q r [] e h = omega (arith, e, h)
rises-above p q r (w ∷ ws) e h = (h.0, rises-above (w.0 + 1) q r ws e h.1)

pub rises-join : (p m q : ℕ) (xs ys : List (ℕ × ℕ)) → RisesTo p xs m → RisesTo m ys q → RisesTo p (xs ++ ys) q
rises-join p m q [] ys h k = rises-below m p q ys h k
rises-join p m q (x ∷ xs) ys h k = (h.0, rises-join (x.0 + 1) m q xs ys h.1 k)

pub rises-from : (p q : ℕ) (ws : List (ℕ × ℕ)) → RisesTo p ws q → RiseFrom p ws
rises-from p q [] h = tt
rises-from p q (w ∷ ws) h = (h.0, rises-from (w.0 + 1) q ws h.1)

rises-end : (p q r : ℕ) (ws : List (ℕ × ℕ)) → q ≡ r → RisesTo p ws q → RisesTo p ws r
rises-end p q r ws e h = rises-above p q r ws (omega (arith, e)) h

rises-start : (p o q : ℕ) (ws : List (ℕ × ℕ)) → o ≡ p → RisesTo p ws q → RisesTo o ws q
rises-start p o q ws e h = rises-below p o q ws (omega (arith, e)) h

low-place : (low : ℕ) (ws : List (ℕ × ℕ)) (x : ℕ × ℕ) → RiseFrom low ws → IsAmong x ws → low ≤ x.0
low-place low [] x h k = absurd k
low-place low (w ∷ ws) x h k =
    ⊎_elim (λ e. let f : w.0 ≡ x.0 = ap (λ (y : ℕ × ℕ). y.0) e in let l = h.0 in omega (arith, f, l)) (λ m. let r = low-place (w.0 + 1) ws x h.1 m in let l = h.0 in omega (arith, r, l)) k

pub weight-found : (low : ℕ) (ws : List (ℕ × ℕ)) (x : ℕ × ℕ) → RiseFrom low ws → IsAmong x ws → weight_in ws x.0 ≡ Some (x.1)
weight-found low [] x h k = absurd k
weight-found low (w ∷ ws) x h k =
    ⊎_elim (λ e. let P : ℕ × ℕ → Type 0 = λ y. weight_in (w ∷ ws) y.0 ≡ Some (y.1) in subst P e (own w ws))
    (λ m. let r = low-place (w.0 + 1) ws x h.1 m in let e : (w.0 == x.0) ≡ false = grind (arith, nat_tests, r) in ap (λ b. if b then Some (w.1) else weight_in ws x.0) e ∙ weight-found (w.0 + 1) ws x h.1 m) k
  where
    own : (w : ℕ × ℕ) (ws : List (ℕ × ℕ)) → weight_in (w ∷ ws) w.0 ≡ Some (w.1)
    own w ws = let e : (w.0 == w.0) ≡ true = grind (arith, nat_tests) in ap (λ b. if b then Some (w.1) else weight_in ws w.0) e

module _ (image : Parts) where
  half-after : (o : Option ℤ) (p : ℕ) → p ≤ behind_half o p
  half-after None p = omega arith
  half-after (Some u) p = omega arith

  pub word-after : (p : ℕ) → p ≤ word_place image p
  word-after p = half-after (half image p) p

  pub units-after : (n p q : ℕ) → AreUnits image p n q → p ≤ q
  units-after zero p q u = omega (arith, u)
  units-after (suc n) p q u = let r = units-after n (behind image p) q u.2 in let w = word-after p in omega (arith, r, w)

  module _ (costs : List ℕ) where
    pub region-rises : (r : Region) → IsLaid image r → RisesTo (from r) (region_weights image costs r) (to r)
    region-rises (Words p n q) l = units-after n p q l
    region-rises (Then x y) l =
        rises-join (from x) (from y) (to y) (region_weights image costs x) (region_weights image costs y) (rises-end (from x) (to x) (from y) (region_weights image costs x) l.2 (region-rises x l.0)) (region-rises y l.1)
    region-rises (Choice p n at x y) l =
        let a = units-after n p at l.0 in
        let b = word-after at in
        let e = l.2 in
        let f = l.5 in
        let j = word-after (to x) in
        rises-join p (from y) (to y) (region_weights image costs x) (region_weights image costs y)
        (rises-above p (to x) (from y) (region_weights image costs x) (omega (arith, f, j)) (rises-below (from x) p (to x) (region_weights image costs x) (omega (arith, a, b, e)) (region-rises x l.3))) (region-rises y l.6)
    region-rises (Counted p m n at body q) l =
        let a = units-after n (behind image p + 1) at l.2 in
        let b = word-after at in
        let e = l.4 in
        let f = l.7 in
        let j = word-after (to body) in (
          word-after p,
          rises-above (behind image p) (to body) (q + 1) (region_weights image costs body) (omega (arith, f, j))
              (rises-below (from body) (behind image p) (to body) (region_weights image costs body) (omega (arith, a, b, e)) (region-rises body l.5)),
        )
    region-rises (Repeated p m body q) l =
        let e = l.2 in
        let f = l.5 in
        let j = word-after (to body) in (
          word-after p,
          rises-above (behind image p) (to body) q (region_weights image costs body) (omega (arith, f, j))
              (rises-below (from body) (behind image p) (to body) (region_weights image costs body) (omega (arith, e)) (region-rises body l.3)),
        )
    region-rises (Calling p callee) l = omega arith

    pub code-rises : (s : ℕ) (stack : List ℕ) (code : Code) → IsLaidIn image s stack code → RisesTo (entry code) (code_weights image costs code) (exit code)
    code-rises s a (Passed r) l = region-rises r l.0
    code-rises s a (Sequence x y) l =
        rises-join (entry x) (entry y) (exit y) (code_weights image costs x) (code_weights image costs y) (rises-end (entry x) (exit x) (entry y) (code_weights image costs x) l.2 (code-rises s a x l.0)) (code-rises s a y l.1)
    code-rises s a (Either p n at x y) l =
        let u = units-after n p at l.0 in
        let b = word-after at in
        let e = l.2 in
        let f = l.5 in
        let j = word-after (exit x) in
        rises-join p (entry y) (exit y) (code_weights image costs x) (code_weights image costs y)
        (rises-above p (exit x) (entry y) (code_weights image costs x) (omega (arith, f, j)) (rises-below (entry x) p (exit x) (code_weights image costs x) (omega (arith, u, b, e)) (code-rises s a x l.3))) (code-rises s a y l.6)
    code-rises s a (Turns p n at body q) l =
        let u = units-after n p at l.0 in
        let b = word-after at in
        let e = l.2 in
        let f = l.5 in
        let j = word-after (exit body) in
        rises-above p (exit body) q (code_weights image costs body) (omega (arith, f, j)) (rises-below (entry body) p (exit body) (code_weights image costs body) (omega (arith, u, b, e)) (code-rises s a body l.3))
    code-rises s a (Forever body q) l =
        let f = l.2 in
        let j = word-after (exit body) in
        rises-above (entry body) (exit body) q (code_weights image costs body) (omega (arith, f, j)) (code-rises s a body l.0)
    code-rises s a (Resting p) l = omega arith
    code-rises s a (Forking p lo n) l = omega arith
    code-rises s a (Guarded p j body) l =
        let e = l.3 in
        rises-above p (exit body) (exit body + 1) (code_weights image costs body) (omega arith) (rises-below (entry body) p (exit body) (code_weights image costs body) (omega (arith, e)) (code-rises s (a ++ j ∷ []) body l.4))

    -- all of a region's weights are found
    module _ (cert : CertParts) where
      abbrev pub AreFound : List (ℕ × ℕ) → Type 0
      AreFound ws = (x : ℕ × ℕ) → IsAmong x ws → weight_in cert.weights x.0 ≡ Some (x.1)

      first-found : (xs ys : List (ℕ × ℕ)) → AreFound (xs ++ ys) → AreFound xs
      first-found xs ys h x k = h x (among-left x xs ys k)

      later-found : (xs ys : List (ℕ × ℕ)) → AreFound (xs ++ ys) → AreFound ys
      later-found xs ys h x k = h x (among-right x xs ys k)

      module _ (find : ℕ → Option Region) where
        pub region-weighed : (r : Region) → AreFound (region_weights image costs r) → AreWeighed image cert costs find r
        region-weighed (Words p n q) h = tt
        region-weighed (Then x y) h = (region-weighed x (first-found (region_weights image costs x) (region_weights image costs y) h), region-weighed y (later-found (region_weights image costs x) (region_weights image costs y) h))
        region-weighed (Choice p n at x y) h = (region-weighed x (first-found (region_weights image costs x) (region_weights image costs y) h), region-weighed y (later-found (region_weights image costs x) (region_weights image costs y) h))
        region-weighed (Counted p m n at body q) h = (h (word_place image p, tested_weight image costs p n at body) (inl refl), region-weighed body (λ x k. h x (inr k)))
        region-weighed (Repeated p m body q) h = (h (word_place image p, plain_weight image costs body) (inl refl), region-weighed body (λ x k. h x (inr k)))
        region-weighed (Calling p callee) h = tt

        pub code-weighed : (code : Code) → AreFound (code_weights image costs code) → AreWeighedIn image cert costs find code
        code-weighed (Passed r) h = region-weighed r h
        code-weighed (Sequence x y) h = (code-weighed x (first-found (code_weights image costs x) (code_weights image costs y) h), code-weighed y (later-found (code_weights image costs x) (code_weights image costs y) h))
        code-weighed (Either p n at x y) h = (code-weighed x (first-found (code_weights image costs x) (code_weights image costs y) h), code-weighed y (later-found (code_weights image costs x) (code_weights image costs y) h))
        code-weighed (Turns p n at body q) h = code-weighed body h
        code-weighed (Forever body q) h = code-weighed body h
        code-weighed (Resting p) h = tt
        code-weighed (Forking p lo n) h = tt
        code-weighed (Guarded p j body) h = code-weighed body h
