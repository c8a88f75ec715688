-- The bounded loops and the calls of a program's threads stand in the order of their places, so each is found.
use Rattle.std.proofs.Common.{◌≡◌, ◌≤◌, ◌+◌, ◌++◌, ◌==◌, ℕ, true, false, if◌then◌else◌, List, [], ◌∷◌, Option, Some, refl, ap, ◌∙◌, subst, inl, ⊎_elim, arith}
use Rattle.std.proofs.lemmas.Bool.Decides.{nat_tests}
use Rattle.pt_image.specs.declared.Parts.{Parts}
use Rattle.tk_cert.specs.declared.cert.CertParts.{CertParts}
use Rattle.tk_paths.proofs.Lists.{IsAmong}
use Rattle.tk_paths.proofs.Accepts.{among-left, among-right}
use Rattle.tk_paths.specs.Regions.{Region, Words, Then, Choice, Counted, Repeated, Calling, from, to, behind, IsLaid}
use Rattle.tk_paths.specs.Codes.{Code, Passed, Sequence, Either, Turns, Forever, Resting, Forking, Guarded, entry, exit, IsLaidIn}
use Rattle.tk_paths.specs.Choices.{pieces, code_pieces, piece_in}
use Rattle.tk_paths.proofs.Listing.{AreListed}
use Rattle.tk_paths.proofs.CodeLaws.{AreListedIn}
use Rattle.tk_paths.proofs.Weights.{word-after, units-after}

-- the places rise, the first isn't below a place, and all are below another
abbrev pub RisesTo : ℕ → List (ℕ × Region) → ℕ → Type 0
RisesTo p [] q = p ≤ q
RisesTo p (w ∷ ws) q = (p ≤ w.0) × RisesTo (w.0 + 1) ws q

pub rises-below : (p o q : ℕ) (ws : List (ℕ × Region)) → o ≤ p → RisesTo p ws q → RisesTo o ws q
rises-below p o q [] e h = omega (arith, e, h)
rises-below p o q (w ∷ ws) e h = (let x = h.0 in omega (arith, e, x), h.1)

pub rises-above : (p q r : ℕ) (ws : List (ℕ × Region)) → q ≤ r → RisesTo p ws q → RisesTo p ws r
rises-above p q r [] e h = omega (arith, e, h)
rises-above p q r (w ∷ ws) e h = (h.0, rises-above (w.0 + 1) q r ws e h.1)

pub rises-join : (p m q : ℕ) (xs ys : List (ℕ × Region)) → RisesTo p xs m → RisesTo m ys q → RisesTo p (xs ++ ys) q
rises-join p m q [] ys h k = rises-below m p q ys h k
rises-join p m q (x ∷ xs) ys h k = (h.0, rises-join (x.0 + 1) m q xs ys h.1 k)

rises-end : (p q r : ℕ) (ws : List (ℕ × Region)) → q ≡ r → RisesTo p ws q → RisesTo p ws r
rises-end p q r ws e h = rises-above p q r ws (omega (arith, e)) h

rises-start : (p o q : ℕ) (ws : List (ℕ × Region)) → o ≡ p → RisesTo p ws q → RisesTo o ws q
rises-start p o q ws e h = rises-below p o q ws (omega (arith, e)) h

low-place : (low q : ℕ) (xs : List (ℕ × Region)) (x : ℕ × Region) → RisesTo low xs q → IsAmong x xs → low ≤ x.0
low-place low q [] x h k = absurd k
low-place low q (y ∷ xs) x h k =
    ⊎_elim (λ e. let f : y.0 ≡ x.0 = ap (λ (z : ℕ × Region). z.0) e in let l = h.0 in omega (arith, f, l)) (λ m. let r = low-place (y.0 + 1) q xs x h.1 m in let l = h.0 in omega (arith, r, l)) k

pub piece-found : (low q : ℕ) (xs : List (ℕ × Region)) (x : ℕ × Region) → RisesTo low xs q → IsAmong x xs → piece_in xs x.0 ≡ Some (x.1)
piece-found low q [] x h k = absurd k
piece-found low q (y ∷ xs) x h k =
    ⊎_elim (λ e. let P : ℕ × Region → Type 0 = λ z. piece_in (y ∷ xs) z.0 ≡ Some (z.1) in subst P e (own y xs))
    (λ m. let r = low-place (y.0 + 1) q xs x h.1 m in let e : (y.0 == x.0) ≡ false = grind (arith, nat_tests, r) in ap (λ b. if b then Some (y.1) else piece_in xs x.0) e ∙ piece-found (y.0 + 1) q xs x h.1 m) k
  where
    own : (y : ℕ × Region) (xs : List (ℕ × Region)) → piece_in (y ∷ xs) y.0 ≡ Some (y.1)
    own y xs = let e : (y.0 == y.0) ≡ true = grind (arith, nat_tests) in ap (λ b. if b then Some (y.1) else piece_in xs y.0) e

module _ (image : Parts) where
  rises-after : (p q : ℕ) (xs : List (ℕ × Region)) → RisesTo p xs q → p ≤ q
  rises-after p q [] h = h
  rises-after p q (x ∷ xs) h = let r = rises-after (x.0 + 1) q xs h.1 in let l = h.0 in omega (arith, r, l)

  region-rises : (r : Region) → IsLaid image r → RisesTo (from r) (pieces r) (to r)
  region-rises (Words p n q) l = units-after image n p q l
  region-rises (Then x y) l = rises-join (from x) (from y) (to y) (pieces x) (pieces y) (rises-end (from x) (to x) (from y) (pieces x) l.2 (region-rises x l.0)) (region-rises y l.1)
  region-rises (Choice p n at x y) l =
      let a = units-after image n p at l.0 in
      let b = word-after image at in
      let e = l.2 in
      let f = l.5 in
      let j = word-after image (to x) in
      rises-join p (from y) (to y) (pieces x) (pieces y)
      (rises-above p (to x) (from y) (pieces x) (omega (arith, f, j)) (rises-below (from x) p (to x) (pieces x) (omega (arith, a, b, e)) (region-rises x l.3))) (region-rises y l.6)
  region-rises (Counted p m n at body q) l =
      let o = word-after image p in
      let a = units-after image n (behind image p + 1) at l.2 in
      let b = word-after image at in
      let e = l.4 in
      let f = l.7 in
      let c = rises-after (from body) (to body) (pieces body) (region-rises body l.5) in
      let j = word-after image (to body) in
      (omega arith, omega (arith, o, a, b, e, f, c, j))
  region-rises (Repeated p m body q) l =
      let o = word-after image p in
      let e = l.2 in
      let f = l.5 in
      let c = rises-after (from body) (to body) (pieces body) (region-rises body l.3) in
      let j = word-after image (to body) in
      (omega arith, omega (arith, o, e, f, c, j))
  region-rises (Calling p callee) l = (omega arith, omega arith)

  pub code-rises : (s : ℕ) (stack : List ℕ) (code : Code) → IsLaidIn image s stack code → RisesTo (entry code) (code_pieces code) (exit code)
  code-rises s a (Passed r) l = region-rises r l.0
  code-rises s a (Sequence x y) l =
      rises-join (entry x) (entry y) (exit y) (code_pieces x) (code_pieces y) (rises-end (entry x) (exit x) (entry y) (code_pieces x) l.2 (code-rises s a x l.0)) (code-rises s a y l.1)
  code-rises s a (Either p n at x y) l =
      let u = units-after image n p at l.0 in
      let b = word-after image at in
      let e = l.2 in
      let f = l.5 in
      let j = word-after image (exit x) in
      rises-join p (entry y) (exit y) (code_pieces x) (code_pieces y)
      (rises-above p (exit x) (entry y) (code_pieces x) (omega (arith, f, j)) (rises-below (entry x) p (exit x) (code_pieces x) (omega (arith, u, b, e)) (code-rises s a x l.3))) (code-rises s a y l.6)
  code-rises s a (Turns p n at body q) l =
      let u = units-after image n p at l.0 in
      let b = word-after image at in
      let e = l.2 in
      let f = l.5 in
      let j = word-after image (exit body) in
      rises-above p (exit body) q (code_pieces body) (omega (arith, f, j)) (rises-below (entry body) p (exit body) (code_pieces body) (omega (arith, u, b, e)) (code-rises s a body l.3))
  code-rises s a (Forever body q) l =
      let f = l.2 in
      let j = word-after image (exit body) in
      rises-above (entry body) (exit body) q (code_pieces body) (omega (arith, f, j)) (code-rises s a body l.0)
  code-rises s a (Resting p) l = omega arith
  code-rises s a (Forking p lo n) l = omega arith
  code-rises s a (Guarded p j body) l =
      let e = l.3 in
      rises-above p (exit body) (exit body + 1) (code_pieces body) (omega arith) (rises-below (entry body) p (exit body) (code_pieces body) (omega (arith, e)) (code-rises s (a ++ j ∷ []) body l.4))

  -- all of a code's are found
  module _ (cert : CertParts) (costs : List ℕ) (find : ℕ → Option Region) where
    abbrev pub AreFound : List (ℕ × Region) → Type 0
    AreFound xs = (x : ℕ × Region) → IsAmong x xs → find x.0 ≡ Some (x.1)

    first-found : (xs ys : List (ℕ × Region)) → AreFound (xs ++ ys) → AreFound xs
    first-found xs ys h x k = h x (among-left x xs ys k)

    later-found : (xs ys : List (ℕ × Region)) → AreFound (xs ++ ys) → AreFound ys
    later-found xs ys h x k = h x (among-right x xs ys k)

    region-listed : (r : Region) → AreFound (pieces r) → AreListed image cert costs find r
    region-listed (Words p n q) h = tt
    region-listed (Then x y) h = (region-listed x (first-found (pieces x) (pieces y) h), region-listed y (later-found (pieces x) (pieces y) h))
    region-listed (Choice p n at x y) h = (region-listed x (first-found (pieces x) (pieces y) h), region-listed y (later-found (pieces x) (pieces y) h))
    region-listed (Counted p m n at body q) h = h (p, Counted p m n at body q) (inl refl)
    region-listed (Repeated p m body q) h = h (p, Repeated p m body q) (inl refl)
    region-listed (Calling p callee) h = h (p, Calling p callee) (inl refl)

    pub code-listed : (code : Code) → AreFound (code_pieces code) → AreListedIn image cert costs find code
    code-listed (Passed r) h = region-listed r h
    code-listed (Sequence x y) h = (code-listed x (first-found (code_pieces x) (code_pieces y) h), code-listed y (later-found (code_pieces x) (code_pieces y) h))
    code-listed (Either p n at x y) h = (code-listed x (first-found (code_pieces x) (code_pieces y) h), code-listed y (later-found (code_pieces x) (code_pieces y) h))
    code-listed (Turns p n at body q) h = code-listed body h
    code-listed (Forever body q) h = code-listed body h
    code-listed (Resting p) h = tt
    code-listed (Forking p lo n) h = tt
    code-listed (Guarded p j body) h = code-listed body h
