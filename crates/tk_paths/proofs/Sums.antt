-- Conditions by sums give the conditions as relations.
use Rattle.std.proofs.Common.{◌≡◌, ◌≤◌, ◌+◌, ℕ, zero, suc, if◌then◌else◌, nat_le, List, [], ◌∷◌, Option, Some, None, refl, sym, subst, ⊎_elim, arith, length}
use Rattle.std.proofs.lemmas.Bool.Decides.{nat_tests}
use Rattle.std.proofs.lemmas.Option.{none-some, same_Some}
use Rattle.tk_paths.specs.declared.word.Word.{Word}
use Rattle.tk_paths.specs.declared.word.Word.TheVariants.{Does, Imm, Jump, Branch, Eot, Fork, End, Abrt, Leave, Call, Ret, Loop, Next, Drop, Cend}
use Rattle.tk_paths.proofs.Inner.{Image}
use Rattle.tk_paths.specs.declared.view.Side.{Side}
use Rattle.tk_paths.specs.declared.view.Side.TheVariants.{ToPause, ToEnd}
use Rattle.tk_paths.specs.Sums.{plus, greater, or_zero, and_more, all_ends, most, most_paused, resumed_ends, resumed_most, resumed_paused}
use Rattle.tk_paths.proofs.Conditions.{Cert, Line, Bare, Thread, Routine, Cond, Pays, ThreadIs, both_sides, Handled, Rests, After, Sum, Starts, Ends, Over, With, both_ends, Resumes, Resumed, Tested, IsFine, IsPauseFine, IsForkFine, IsAccepted}
use Rattle.tk_paths.proofs.BySums.{Asks, begins, EachWeak, EachStrong, conditions, PausesPay, ForksPay, IsFineWritten, IsPauseWritten, ForkResumes, HasResumed, IsForkWritten, IsAcceptedWritten}
use Rattle.mb_isa.specs.declared.Class.TheVariants as class

-- a number is there, and is at least this
abbrev Has : Option ℕ → ℕ → Type 0
Has o n = (m : ℕ) × (o ≡ Some m) × (n ≤ m)

pays-less : (given : Option ℕ) (m n : ℕ) → n ≤ m → Pays given m → Pays given n
pays-less given m n h p = (p.0, p.1, (let a = p.2 in omega (arith, a, h)))

asks-has : (given needed : Option ℕ) (n : ℕ) → Asks given needed → Has needed n → Pays given n
asks-has given None n a h = absurd (none-some h.0 h.1)
asks-has given (Some m) n a h = let same : m ≡ h.0 = same_Some m h.0 h.1 in pays-less given m n (let b = h.2 in omega (arith, same, b)) a

has-plus : (a b : Option ℕ) (m n : ℕ) → Has a m → Has b n → Has (plus a b) (m + n)
has-plus None b m n p q = absurd (none-some p.0 p.1)
has-plus (Some a) None m n p q = absurd (none-some q.0 q.1)
has-plus (Some a) (Some b) m n p q =
    let e : a ≡ p.0 = same_Some a p.0 p.1 in
    let f : b ≡ q.0 = same_Some b q.0 q.1 in
    (a + b, refl, (let x = p.2 in let y = q.2 in omega (arith, e, f, x, y)))

has-this : (n m : ℕ) → m ≤ n → Has (Some n) m
has-this n m h = (n, refl, h)

has-some : (o : Option ℕ) (n : ℕ) → o ≡ Some n → Has o n
has-some o n e = (n, e, omega arith)

has-first : (a b : Option ℕ) (n : ℕ) → Has a n → Has (greater a b) n
has-first None b n h = absurd (none-some h.0 h.1)
has-first (Some a) None n h = h
has-first (Some a) (Some b) n h =
    let e : a ≡ h.0 = same_Some a h.0 h.1 in
    let x : n ≤ h.0 = h.2 in
    let c : n ≤ (if nat_le a b then b else a) = grind (arith, nat_tests, e, x) in
    (if nat_le a b then b else a, refl, c)

has-second : (a b : Option ℕ) (n : ℕ) → Has b n → Has (greater a b) n
has-second None b n h = h
has-second (Some a) None n h = absurd (none-some h.0 h.1)
has-second (Some a) (Some b) n h =
    let e : b ≡ h.0 = same_Some b h.0 h.1 in
    let x : n ≤ h.0 = h.2 in
    let c : n ≤ (if nat_le a b then b else a) = grind (arith, nat_tests, e, x) in
    (if nat_le a b then b else a, refl, c)

or-zero-has : (o : Option ℕ) (n : ℕ) → Has o n → n ≤ or_zero o
or-zero-has None n h = absurd (none-some h.0 h.1)
or-zero-has (Some m) n h = let e : m ≡ h.0 = same_Some m h.0 h.1 in let x = h.2 in omega (arith, e, x)

module _ (image : Image) (cert : Cert) where
  -- sums of children that start
  abbrev SumIs : ℕ → ℕ → Side → ℕ → Type 0
  SumIs c n ToEnd g = Has (all_ends (begins image cert) c n) g × Has (most (begins image cert) c n) g
  SumIs c n ToPause g = Has (most_paused (begins image cert) c n) g × Has (most (begins image cert) c n) g

  sum-most : (c n : ℕ) (side : Side) (g : ℕ) → SumIs c n side g → Has (most (begins image cert) c n) g
  sum-most c n ToEnd g h = h.1
  sum-most c n ToPause g h = h.1

  sum-step : (c n : ℕ) (x y : Side) (p q : ℕ) → begins image cert x c ≡ Some p → SumIs (c + 1) n y q → SumIs c (suc n) (both_sides x y) (p + q)
  sum-step c n ToEnd ToEnd p q e h = (
    has-plus (begins image cert ToEnd c) (all_ends (begins image cert) (c + 1) n) p q (has-some _ p e) h.0,
    has-plus (greater (begins image cert ToPause c) (begins image cert ToEnd c)) (most (begins image cert) (c + 1) n) p q (has-second (begins image cert ToPause c) (begins image cert ToEnd c) p (has-some _ p e)) h.1,
  )
  sum-step c n ToEnd ToPause p q e h = (
    has-second (plus (begins image cert ToPause c) (most (begins image cert) (c + 1) n)) (plus (begins image cert ToEnd c) (most_paused (begins image cert) (c + 1) n)) (p + q)
        (has-plus (begins image cert ToEnd c) (most_paused (begins image cert) (c + 1) n) p q (has-some _ p e) h.0),
    has-plus (greater (begins image cert ToPause c) (begins image cert ToEnd c)) (most (begins image cert) (c + 1) n) p q (has-second (begins image cert ToPause c) (begins image cert ToEnd c) p (has-some _ p e)) h.1,
  )
  sum-step c n ToPause y p q e h = (
    has-first (plus (begins image cert ToPause c) (most (begins image cert) (c + 1) n)) (plus (begins image cert ToEnd c) (most_paused (begins image cert) (c + 1) n)) (p + q)
        (has-plus (begins image cert ToPause c) (most (begins image cert) (c + 1) n) p q (has-some _ p e) (sum-most (c + 1) n y q h)),
    has-plus (greater (begins image cert ToPause c) (begins image cert ToEnd c)) (most (begins image cert) (c + 1) n) p q (has-first (begins image cert ToPause c) (begins image cert ToEnd c) p (has-some _ p e)) (sum-most (c + 1) n y q h),
  )

  sums : (c n : ℕ) (side : Side) (g : ℕ) → Sum image cert (Starts image cert) c n side g → SumIs c n side g
  sums c zero side g h =
      let z : g ≡ 0 = h.1 in
      subst (λ s. SumIs c zero s g) (sym h.0) (has-this 0 g (omega (arith, z)), has-this 0 g (omega (arith, z)))
  sums c (suc n) side g h =
      let r = sum-step c n h.0 h.1 h.2 h.3 h.4 (sums (c + 1) n h.1 h.3 h.5) in
      subst (λ s. SumIs c (suc n) s g) (sym h.6) (subst (λ x. SumIs c (suc n) (both_sides h.0 h.1) x) (sym h.7) r)

  -- sums of children that are resumed
  abbrev ResumedIs : ℕ → ℕ → Ends → ℕ → Type 0
  ResumedIs c n Over g = g ≡ 0
  ResumedIs c n (With ToEnd) g = Has (resumed_ends cert.resumed c n) g × (g ≤ resumed_most cert.resumed c n)
  ResumedIs c n (With ToPause) g = Has (resumed_paused cert.resumed c n) g × (g ≤ resumed_most cert.resumed c n)

  resumed-within : (c n : ℕ) (end : Ends) (g : ℕ) → ResumedIs c n end g → g ≤ resumed_most cert.resumed c n
  resumed-within c n Over g h = let e : g ≡ 0 = h in omega (arith, e)
  resumed-within c n (With ToEnd) g h = h.1
  resumed-within c n (With ToPause) g h = h.1

  end-more : (v rest : Option ℕ) (p q : ℕ) → Has v p → q ≤ or_zero rest → Has (and_more v rest) (p + q)
  end-more None rest p q h l = absurd (none-some h.0 h.1)
  end-more (Some v) rest p q h l = let e : v ≡ h.0 = same_Some v h.0 h.1 in (v + or_zero rest, refl, (let x = h.2 in omega (arith, e, x, l)))

  end-rest : (v rest : Option ℕ) (q : ℕ) → Has rest q → Has (and_more v rest) q
  end-rest None rest q h = h
  end-rest (Some v) rest q h = let x = or-zero-has rest q h in (v + or_zero rest, refl, omega (arith, x))

  side-most : (c : ℕ) (side : Side) (p : ℕ) → cert.resumed side c ≡ Some p → p ≤ or_zero (greater (cert.resumed ToPause c) (cert.resumed ToEnd c))
  side-most c ToPause p e = or-zero-has (greater (cert.resumed ToPause c) (cert.resumed ToEnd c)) p (has-first (cert.resumed ToPause c) (cert.resumed ToEnd c) p (has-some _ p e))
  side-most c ToEnd p e = or-zero-has (greater (cert.resumed ToPause c) (cert.resumed ToEnd c)) p (has-second (cert.resumed ToPause c) (cert.resumed ToEnd c) p (has-some _ p e))

  end-most : (c n : ℕ) (x y : Ends) (p q : ℕ) → Resumes image cert c x p → ResumedIs (c + 1) n y q → p + q ≤ resumed_most cert.resumed c (suc n)
  end-most c n Over y p q e h = let z : p ≡ 0 = e in let r = resumed-within (c + 1) n y q h in omega (arith, z, r)
  end-most c n (With side) y p q e h = let z = side-most c side p e in let r = resumed-within (c + 1) n y q h in omega (arith, z, r)

  -- so much, and nothing from another child
  paused-first : (c n : ℕ) (y : Ends) (p q : ℕ) → cert.resumed ToPause c ≡ Some p → ResumedIs (c + 1) n y q → Has (resumed_paused cert.resumed c (suc n)) (p + q)
  paused-first c n y p q e h =
      has-first (plus (cert.resumed ToPause c) (Some (resumed_most cert.resumed (c + 1) n))) (plus (Some (or_zero (cert.resumed ToEnd c))) (resumed_paused cert.resumed (c + 1) n)) (p + q)
      (has-plus (cert.resumed ToPause c) (Some (resumed_most cert.resumed (c + 1) n)) p q (has-some _ p e) (has-this _ q (resumed-within (c + 1) n y q h)))

  paused-rest : (c n p q : ℕ) → p ≤ or_zero (cert.resumed ToEnd c) → Has (resumed_paused cert.resumed (c + 1) n) q → Has (resumed_paused cert.resumed c (suc n)) (p + q)
  paused-rest c n p q l h =
      has-second (plus (cert.resumed ToPause c) (Some (resumed_most cert.resumed (c + 1) n))) (plus (Some (or_zero (cert.resumed ToEnd c))) (resumed_paused cert.resumed (c + 1) n)) (p + q)
      (has-plus (Some (or_zero (cert.resumed ToEnd c))) (resumed_paused cert.resumed (c + 1) n) p q (has-this _ p l) h)

  same-number : (o : Option ℕ) (m n : ℕ) → m ≡ n → Has o m → Has o n
  same-number o m n e h = subst (Has o) e h

  resumed-step : (c n : ℕ) (x y : Ends) (p q : ℕ) → Resumes image cert c x p → ResumedIs (c + 1) n y q → ResumedIs c (suc n) (both_ends x y) (p + q)
  resumed-step c n Over Over p q e h = let a : p ≡ 0 = e in let b : q ≡ 0 = h in omega (arith, a, b)
  resumed-step c n Over (With ToEnd) p q e h =
      let z : q ≡ p + q = (let a : p ≡ 0 = e in omega (arith, a)) in
      (same-number (resumed_ends cert.resumed c (suc n)) q (p + q) z (end-rest (cert.resumed ToEnd c) (resumed_ends cert.resumed (c + 1) n) q h.0), end-most c n Over (With ToEnd) p q e h)
  resumed-step c n Over (With ToPause) p q e h =
      let a : p ≡ 0 = e in
      (paused-rest c n p q (omega (arith, a)) h.0, end-most c n Over (With ToPause) p q e h)
  resumed-step c n (With ToEnd) Over p q e h =
      let b : q ≡ 0 = h in
      (end-more (cert.resumed ToEnd c) (resumed_ends cert.resumed (c + 1) n) p q (has-some _ p e) (omega (arith, b)), end-most c n (With ToEnd) Over p q e h)
  resumed-step c n (With ToEnd) (With ToEnd) p q e h =
      (end-more (cert.resumed ToEnd c) (resumed_ends cert.resumed (c + 1) n) p q (has-some _ p e) (or-zero-has (resumed_ends cert.resumed (c + 1) n) q h.0), end-most c n (With ToEnd) (With ToEnd) p q e h)
  resumed-step c n (With ToEnd) (With ToPause) p q e h =
      (paused-rest c n p q (or-zero-has (cert.resumed ToEnd c) p (has-some _ p e)) h.0, end-most c n (With ToEnd) (With ToPause) p q e h)
  resumed-step c n (With ToPause) Over p q e h = (paused-first c n Over p q e h, end-most c n (With ToPause) Over p q e h)
  resumed-step c n (With ToPause) (With y) p q e h = (paused-first c n (With y) p q e h, end-most c n (With ToPause) (With y) p q e h)

  resumed-sums : (c n : ℕ) (end : Ends) (g : ℕ) → Resumed image cert c n end g → ResumedIs c n end g
  resumed-sums c zero end g h = subst (λ e. ResumedIs c zero e g) (sym h.0) h.1
  resumed-sums c (suc n) end g h =
      let r = resumed-step c n h.0 h.1 h.2 h.3 h.4 (resumed-sums (c + 1) n h.1 h.3 h.5) in
      subst (λ s. ResumedIs c (suc n) s g) (sym h.6) (subst (λ x. ResumedIs c (suc n) (both_ends h.0 h.1) x) (sym h.7) r)

  -- a child of a sum that isn't over has a number
  abbrev SomeResumed : ℕ → ℕ → Ends → Type 0
  SomeResumed c n Over = Unit {0}
  SomeResumed c n (With side) = HasResumed image cert c n

  some-later : (c n : ℕ) → HasResumed image cert (c + 1) n → HasResumed image cert c (suc n)
  some-later c n h = (h.0, h.1, h.2, (let a = h.3 in omega (arith, a)), (let b = h.4 in omega (arith, b)), h.5)

  some-step : (c n : ℕ) (x y : Ends) (p : ℕ) → Resumes image cert c x p → SomeResumed (c + 1) n y → SomeResumed c (suc n) (both_ends x y)
  some-step c n Over Over p e h = tt
  some-step c n Over (With side) p e h = some-later c n h
  some-step c n (With side) Over p e h = (c, side, p, omega arith, omega arith, e)
  some-step c n (With side) (With y) p e h = (c, side, p, omega arith, omega arith, e)

  some-resumed : (c n : ℕ) (end : Ends) (g : ℕ) → Resumed image cert c n end g → SomeResumed c n end
  some-resumed c zero end g h = subst (λ e. SomeResumed c zero e) (sym h.0) tt
  some-resumed c (suc n) end g h = subst (λ e. SomeResumed c (suc n) e) (sym h.6) (some-step c n h.0 h.1 h.2 h.4 (some-resumed (c + 1) n h.1 h.3 h.5))

  -- a handler that is paid for
  handled-pays : (side : Side) (given : Option ℕ) (extra : Option ℕ) (i : ℕ) (a : List ℕ) (k : ℕ) (e r : ℕ) → Has extra e →
      EachWeak image cert (λ j h. Asks given (plus extra (cert.number side j h))) i a k → Handled image cert side i a k r → Pays given (e + r)
  handled-pays side given extra i [] k e r x w h = absurd h
  handled-pays side given extra i (j ∷ a) zero e r x w h = absurd h
  handled-pays side given extra i (j ∷ a) (suc k) e r x w h =
      ⊎_elim
      (λ c. asks-has given (plus extra (cert.number side i (image.handler j))) (e + r) (w.0 c.0) (has-plus extra (cert.number side i (image.handler j)) e r x (has-some _ r c.1)))
      (λ c. handled-pays side given extra (i + 1) a k e r x w.1 c) h

  -- the cost and a sum before what is asked, in two ways
  each-weak-plus : (side : Side) (given c g : Option ℕ) (i : ℕ) (a : List ℕ) (k : ℕ) → EachWeak image cert (λ j h. Asks given (plus c (plus g (cert.number side j h)))) i a k → EachWeak image cert (λ j h. Asks given (plus (plus c g) (cert.number side j h))) i a k
  each-weak-plus side given c g i [] k w = tt
  each-weak-plus side given c g i (j ∷ a) zero w = tt
  each-weak-plus side given c g i (j ∷ a) (suc k) w = ((λ e. by c g (cert.number side i (image.handler j)) (w.0 e)), each-weak-plus side given c g (i + 1) a k w.1)
    where
      by : (x y z : Option ℕ) → Asks given (plus x (plus y z)) → Asks given (plus (plus x y) z)
      by None y z h = h
      by (Some x) None z h = h
      by (Some x) (Some y) None h = h
      by (Some x) (Some y) (Some z) h = pays-less given (x + (y + z)) (x + y + z) (omega arith) h

  pause-pays : (place : ℕ) (a : List ℕ) (k : ℕ) → PausesPay image cert place a k → (side : Side) (r : ℕ) → Rests image cert a k side r → Pays (cert.number side k place) (image.cost class.Eot + r)
  pause-pays place a k w side r h =
      ⊎_elim
      (λ c. let z : r ≡ 0 = c.1 in
      subst (λ s. Pays (cert.number s k place) (image.cost class.Eot + r)) (sym c.0) (pays-less (cert.number ToPause k place) (image.cost class.Eot) (image.cost class.Eot + r) (omega (arith, z)) w.itself))
      (λ c. handled-pays side (cert.number side k place) (Some (image.cost class.Eot)) 0 a k (image.cost class.Eot) r (has-this _ _ (omega arith)) (w.handlers side) c) h

  fork-pays : (place lo n : ℕ) (a : List ℕ) (k : ℕ) → ForksPay image cert place lo n a k → (side y : Side) (g r : ℕ) → SumIs lo n y g → After image cert a k place y side r → Pays (cert.number side k place) (image.cost class.Fork + (g + r))
  fork-pays place lo n a k w side ToEnd g r s h =
      asks-has (cert.number side k place) (plus (Some (image.cost class.Fork)) (plus (all_ends (begins image cert) lo n) (cert.number side k (place + 1)))) (image.cost class.Fork + (g + r)) (w.ends side)
      (has-plus (Some (image.cost class.Fork)) (plus (all_ends (begins image cert) lo n) (cert.number side k (place + 1))) (image.cost class.Fork) (g + r) (has-this _ _ (omega arith))
      (has-plus (all_ends (begins image cert) lo n) (cert.number side k (place + 1)) g r s.0 (has-some _ r h)))
  fork-pays place lo n a k w side ToPause g r s h =
      let c = Some (image.cost class.Fork) in
      let m = most_paused (begins image cert) lo n in
      let x = has-plus c m (image.cost class.Fork) g (has-this _ _ (omega arith)) s.0 in
      ⊎_elim
      (λ e. let z : r ≡ 0 = e.1 in
      subst (λ t. Pays (cert.number t k place) (image.cost class.Fork + (g + r))) (sym e.0)
      (pays-less (cert.number ToPause k place) (image.cost class.Fork + g) (image.cost class.Fork + (g + r)) (omega (arith, z)) (asks-has (cert.number ToPause k place) (plus c m) (image.cost class.Fork + g) w.itself x)))
      (λ e.
      pays-less (cert.number side k place) (image.cost class.Fork + g + r) (image.cost class.Fork + (g + r)) (omega arith)
      (handled-pays side (cert.number side k place) (plus c m) 0 a k (image.cost class.Fork + g) r x (each-weak-plus side (cert.number side k place) c m 0 a k (w.handlers side)) e)) h

  -- the conditions and what is behind them
  tested-pays : (side : Side) (given : Option ℕ) (inner : Side → ℕ → Type 0) (sum i : ℕ) (a : List ℕ) (n : ℕ) →
      EachStrong image cert (λ c j h. Asks given (plus (Some c) (cert.number side j h))) sum i a → ((m : ℕ) → inner side m → Pays given (conditions image cert sum a + m)) → Tested image cert i a inner side n → Pays given (sum + n)
  tested-pays side given inner sum i [] n w p h = p n h
  tested-pays side given inner sum i (j ∷ a) n w p h =
      let more = sum + cert.value (image.cond j) in
      let e = h.1 in
      ⊎_elim
      (λ c.
      pays-less given (more + h.0) (sum + n) (omega (arith, e))
      (asks-has given (plus (Some more) (cert.number side i (image.handler j))) (more + h.0) (w.0 c.0) (has-plus (Some more) (cert.number side i (image.handler j)) more h.0 (has-this _ _ (omega arith)) (has-some _ h.0 c.1))))
      (λ c. pays-less given (more + h.0) (sum + n) (omega (arith, e)) (tested-pays side given inner more (i + 1) a h.0 w.1 p c)) h.2

  pause-fine : (at s : ℕ) (a : List ℕ) → IsPauseWritten image cert at s a → IsPauseFine image cert at s a
  pause-fine at s a w =
      record {
        word = w.word;
        plain = w.plain;
        line = w.line;
        covers = λ side n h.
            let inner : Side → ℕ → Type 0 = λ x m. cert.number x (length a) (at + 1) ≡ Some m in
            let total = conditions image cert 0 a in
            pays-less (cert.resumed side s) (0 + n) n (omega arith)
            (tested-pays side (cert.resumed side s) inner 0 0 a n (w.strong side)
            (λ m e. asks-has (cert.resumed side s) (plus (Some total) (cert.number side (length a) (at + 1))) (total + m) (w.behind side) (has-plus (Some total) (cert.number side (length a) (at + 1)) total m (has-this _ _ (omega arith)) (has-some _ m e))) h);
      }

  group-pays : (at s : ℕ) (a : List ℕ) (lo n : ℕ) → ForkResumes image cert at s a lo n → (side y : Side) (g r : ℕ) → ResumedIs lo n (With y) g → After image cert a (length a) at y side r → Pays (cert.resumed side s) (conditions image cert 0 a + (g + r))
  group-pays at s a lo n w side ToEnd g r q h =
      let total = conditions image cert 0 a in
      asks-has (cert.resumed side s) (plus (Some total) (plus (resumed_ends cert.resumed lo n) (cert.number side (length a) (at + 1)))) (total + (g + r)) (w.ends side)
      (has-plus (Some total) (plus (resumed_ends cert.resumed lo n) (cert.number side (length a) (at + 1))) total (g + r) (has-this _ _ (omega arith))
      (has-plus (resumed_ends cert.resumed lo n) (cert.number side (length a) (at + 1)) g r q.0 (has-some _ r h)))
  group-pays at s a lo n w side ToPause g r q h =
      let total = conditions image cert 0 a in
      let c = Some total in
      let m = resumed_paused cert.resumed lo n in
      let x = has-plus c m total g (has-this _ _ (omega arith)) q.0 in
      ⊎_elim
      (λ e. let z : r ≡ 0 = e.1 in
      subst (λ t. Pays (cert.resumed t s) (total + (g + r))) (sym e.0)
      (pays-less (cert.resumed ToPause s) (total + g) (total + (g + r)) (omega (arith, z)) (asks-has (cert.resumed ToPause s) (plus c m) (total + g) w.itself x)))
      (λ e.
      pays-less (cert.resumed side s) (total + g + r) (total + (g + r)) (omega arith)
      (handled-pays side (cert.resumed side s) (plus c m) 0 a (length a) (total + g) r x (each-weak-plus side (cert.resumed side s) c m 0 a (length a) (w.handlers side)) e)) h

  fork-fine : (at s : ℕ) (a : List ℕ) → IsForkWritten image cert at s a → IsForkFine image cert at s a
  fork-fine at s a w =
      record {
        lo = w.lo;
        count = w.count;
        word = w.word;
        plain = w.plain;
        line = w.line;
        covers = λ end sum some side n h.
            let f = w.resumes (some-resumed w.lo w.count (With end) sum some) in
            let inner : Side → ℕ → Type 0 = λ x m. (y : Side) × (g r : ℕ) × Resumed image cert w.lo w.count (With y) g × After image cert a (length a) at y x r × (m ≡ g + r) in
            let total = conditions image cert 0 a in
            pays-less (cert.resumed side s) (0 + n) n (omega arith)
            (tested-pays side (cert.resumed side s) inner 0 0 a n (f.strong side)
            (λ m e. let z = e.5 in pays-less (cert.resumed side s) (total + (e.1 + e.2)) (total + m) (omega (arith, z))
            (group-pays at s a w.lo w.count f side e.0 e.1 e.2 (resumed-sums w.lo w.count (With e.0) e.1 e.3) e.4)) h);
      }

  thread-map : (P Q : ℕ → List ℕ → Type 0) → ((s : ℕ) (a : List ℕ) → P s a → Q s a) → (line : Line) → ThreadIs image cert line P → ThreadIs image cert line Q
  thread-map P Q f (Thread s a []) h = f s a h
  thread-map P Q f (Thread s a (x ∷ l)) h = h
  thread-map P Q f Bare h = h
  thread-map P Q f (Routine g l) h = h
  thread-map P Q f Cond h = h

  fine : (place : ℕ) (line : Line) (w : Word) → IsFineWritten image cert place line w → IsFine image cert place line w
  fine place line Eot h = (h.0, thread-map _ _ (λ s a p. (p.0, λ k within side r q. pause-pays place a k (p.1 k within) side r q)) line h.1)
  fine place line (Fork lo n) h =
      (h.0, thread-map _ _ (λ s a p. (p.0, p.1, p.2, p.3, p.4, λ k within side y g r q t. fork-pays place lo n a k (p.5 k within) side y g r (sums lo n y g q) t)) line h.1)
  fine place line (Does c) h = h
  fine place line (Imm u) h = h
  fine place line (Jump None) h = h
  fine place line (Jump (Some to)) h = h
  fine place line (Branch None) h = h
  fine place line (Branch (Some to)) h = h
  fine place line End h = h
  fine place line (Abrt j) h = h
  fine place line Leave h = h
  fine place line (Call to) h = h
  fine place line Ret h = h
  fine place line (Loop n) h = h
  fine place line (Next to) h = h
  fine place line Drop h = h
  fine place line Cend h = h

  within-bound : (number : Option ℕ) (n : ℕ) → Asks (Some cert.bound) (plus (Some image.base) number) → number ≡ Some n → image.base + n ≤ cert.bound
  within-bound number n a e =
      let p = asks-has (Some cert.bound) (plus (Some image.base) number) (image.base + n) a (has-plus (Some image.base) number image.base n (has-this _ _ (omega arith)) (has-some number n e)) in
      let same : cert.bound ≡ p.0 = same_Some cert.bound p.0 p.1 in
      let b = p.2 in
      omega (arith, same, b)

  pub accepted_by_sums : IsAcceptedWritten image cert → IsAccepted image cert
  accepted_by_sums w = record {
    start = w.start;
    thread = w.thread;
    place = λ p there. let r = w.place p there in (r.0, r.1, fine p (cert.line p) r.0 r.2);
    pause = λ at s a l. pause-fine at s a (w.pause at s a l);
    fork = λ at s a l. fork-fine at s a (w.fork at s a l);
    apart = w.apart;
    no_zero = w.no_zero;
    base = w.base;
    first = λ side n e. within-bound (cert.number side 0 (image.start 0)) n (w.first side) e;
    again = λ side n e. within-bound (cert.resumed side 0) n (w.again side) e;
  }
