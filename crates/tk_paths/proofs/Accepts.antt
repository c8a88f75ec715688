-- What the demands say of each place: the conditions of which the bound is proved.
use Rattle.std.proofs.Common.{◌≡◌, ◌≤◌, ◌+◌, ◌-◌, ◌==◌, ℕ, Bool, true, false, if◌then◌else◌, List, [], ◌∷◌, ◌++◌, map, filter, flat_map, reverse, length, Option, Some, None, refl, sym, ap, ◌∙◌, subst, inl, inr, ⊎_elim, arith, eqb-true}
use Rattle.std.proofs.lemmas.Bool.{and_parts, false≢true, both_ways}
use Rattle.std.specs.List.{range_with_len}
use Rattle.pt_image.specs.declared.Parts.{Parts}
use Rattle.pt_image.specs.Ranges.{IsImage}
use Rattle.tk_cert.specs.declared.cert.Line.{Line}
use Rattle.tk_cert.specs.declared.cert.Line.TheVariants as line
use Rattle.tk_cert.specs.declared.cert.CertParts.{CertParts}
use Rattle.tk_cert.specs.Shapes.{IsShaped, IsCert}
use Rattle.tk_cert.specs.Demands.{Demand, at_least, AllHold}
use Rattle.tk_paths.specs.declared.view.Side.TheVariants.{ToPause, ToEnd}
use Rattle.tk_paths.specs.Sums.{plus, lowered}
use Rattle.tk_paths.specs.Kinds.{loops_of}
use Rattle.tk_paths.specs.Shape.{in_thread}
use Rattle.tk_paths.specs.declared.view.View.{View}
use Rattle.tk_paths.specs.declared.view.View.TheVariants.{On, Value}
use Rattle.tk_paths.specs.Acceptance.{levels_of, stack_of, levels, views_of, more, asks}
use Rattle.tk_paths.proofs.Conditions.{Cert, Bare, Thread, Routine, Cond, IsBare, Fits, seen, Pays, Reach, IsPlain, IsAt, AreAborts, ThreadIs, LoopsAre, InnerIs, Below, Views, Levels, with_loops, IsThreadFine}
use Rattle.tk_paths.proofs.Conditions as kinds
use Rattle.tk_paths.proofs.BySums.{Asks}
use Rattle.tk_paths.proofs.Lists.{IsAmong, among-range}
use Rattle.tk_paths.proofs.Carried.{kind_of, image_of, cert_of, le-true, short-is, IsLooping}

-- an image and a certificate of which all demands hold
pub record Accepts (image : Parts) (cert : CertParts) (costs : List ℕ) : Type 0 where
  pub image_is : IsImage image
  pub cert_is : IsCert cert
  pub hold : AllHold (asks image cert costs)

abbrev pub Holding : Demand → Type 0
Holding d = d.holds ≡ true

pub among-left : {X : Type 0} (x : X) (xs ys : List X) → IsAmong x xs → IsAmong x (xs ++ ys)
among-left x [] ys h = absurd h
among-left x (z ∷ xs) ys h = ⊎_elim (λ e. inl e) (λ e. inr (among-left x xs ys e)) h

pub among-right : {X : Type 0} (x : X) (xs ys : List X) → IsAmong x ys → IsAmong x (xs ++ ys)
among-right x [] ys h = h
among-right x (z ∷ xs) ys h = inr (among-right x xs ys h)

pub among-flat : {X Y : Type 0} (f : X → List Y) (x : X) (y : Y) (xs : List X) → IsAmong x xs → IsAmong y (f x) → IsAmong y (flat_map f xs)
among-flat f x y [] h k = absurd h
among-flat {X} {Y} f x y (z ∷ xs) h k =
    ⊎_elim (λ e. let P : X → Type 0 = λ w. IsAmong y (f w) in among-left y (f z) (flat_map f xs) (subst P (sym e) k)) (λ e. among-right y (f z) (flat_map f xs) (among-flat f x y xs e k)) h

pub among-map : {X Y : Type 0} (f : X → Y) (x : X) (xs : List X) → IsAmong x xs → IsAmong (f x) (map f xs)
among-map f x [] h = absurd h
among-map f x (z ∷ xs) h = ⊎_elim (λ e. inl (ap f e)) (λ e. inr (among-map f x xs e)) h

pub among-filter : {X : Type 0} (p : X → Bool) (x : X) (xs : List X) → IsAmong x xs → p x ≡ true → IsAmong x (filter p xs)
among-filter p x [] h k = absurd h
among-filter {X} p x (z ∷ xs) h k = by (p z) refl (λ e. among-filter p x xs e k)
  where
    by : (b : Bool) → p z ≡ b → (IsAmong x xs → IsAmong x (filter p xs)) → IsAmong x (if b then z ∷ filter p xs else filter p xs)
    by true e later = ⊎_elim (λ s. inl s) (λ s. inr (later s)) h
    by false e later = ⊎_elim (λ s. absurd (both_ways (p z) e (ap p s ∙ k))) (λ s. later s) h

-- a demand on a number that holds
pub asks-of : (c at level : ℕ) (given needed : Option ℕ) → AllHold (at_least c at level given needed) → Asks given needed
asks-of c at level given None h = tt
asks-of c at level None (Some n) h = absurd (false≢true h.0)
asks-of c at level (Some m) (Some n) h = (m, refl, le-true n m h.0)

pub reach-of : (c at level charge : ℕ) (given next : Option ℕ) → AllHold (at_least c at level given (more charge next)) → Reach given charge next
reach-of c at level charge given next h n e =
    let P : Option ℕ → Type 0 = λ o. Asks given (plus (Some charge) o) in
    subst P e (asks-of c at level given (more charge next) h)

-- a turn of a loop
pub turn-of : (c at level w charge : ℕ) (given next : Option ℕ) → AllHold (at_least c at level given (lowered w (more charge next))) →
    (n : ℕ) → next ≡ Some n → (m : ℕ) × (given ≡ Some m) × (charge + n ≤ m + w)
turn-of c at level w charge given next h n e =
    let P : Option ℕ → Type 0 = λ o. Asks given (lowered w (plus (Some charge) o)) in
    let p : Pays given ((charge + n) - w) = subst P e (asks-of c at level given (lowered w (more charge next)) h) in
    (p.0, p.1, (let x = p.2 in omega (arith, x)))

some-length : (x : ℕ) (l : List ℕ) → (length (x ∷ l) == 0) ≡ true → ⊥
some-length x l h = let e : length (x ∷ l) ≡ 0 = eqb-true (length (x ∷ l)) 0 h in omega (arith, e)

pub nothing : (l : List ℕ) → (length l == 0) ≡ true → l ≡ []
nothing [] h = refl
nothing (x ∷ l) h = absurd (some-length x l h)

module _ (image : Parts) (cert : CertParts) (costs : List ℕ) where
  -- what each number of a line is to meet
  pub views-hold : (P : View → Type 0) (line : Line) → IsShaped line → length (loops_of line) ≤ 8 → ((view : View) → IsAmong view (views_of line) → P view) → Views (image_of image costs) (cert_of image cert costs) (kind_of line) P
  views-hold P line.Bare sh few h view fit = absurd fit
  views-hold P (line.Thread s a l v) sh few h view fit = by view (subst (Fits view) (short-is l (Thread s a (reverse l)) few) fit)
    where
      by : (w : View) → Fits w (Thread s a (reverse l)) → P w
      by (On ToPause k) f =
          let f' : k ≤ length a = f in
          let n : length v ≡ length a + 1 = sh in
          h (On ToPause k) (among-flat (λ j. On ToPause j ∷ On ToEnd j ∷ []) k (On ToPause k) (range_with_len 0 (length v)) (among-range 0 (length v) k (omega arith) (omega (arith, f', n))) (inl refl))
      by (On ToEnd k) f =
          let f' : k ≤ length a = f in
          let n : length v ≡ length a + 1 = sh in
          h (On ToEnd k) (among-flat (λ j. On ToPause j ∷ On ToEnd j ∷ []) k (On ToEnd k) (range_with_len 0 (length v)) (among-range 0 (length v) k (omega arith) (omega (arith, f', n))) (inr (inl refl)))
      by Value f = absurd f
  views-hold P (line.Routine g l v) sh few h view fit = by view (subst (Fits view) (short-is l (Routine g (reverse l)) few) fit)
    where
      by : (w : View) → Fits w (Routine g (reverse l)) → P w
      by (On side k) f = absurd f
      by Value f = h Value (inl refl)
  views-hold P (line.Cond v) sh few h view fit = by view fit
    where
      by : (w : View) → Fits w Cond → P w
      by (On side k) f = absurd f
      by Value f = h Value (inl refl)

  pub levels-hold : (P : ℕ → Type 0) (line : Line) (a : List ℕ) → length (levels_of line) ≡ length a + 1 → ((k : ℕ) → IsAmong k (levels line) → P k) → Levels (image_of image costs) (cert_of image cert costs) a P
  levels-hold P line a n h k within = h k (among-range 0 (length (levels_of line)) k (omega arith) (omega (arith, within, n)))

  -- a line of a thread inside no loop
  pub thread-is : (P : ℕ → List ℕ → Type 0) (line : Line) (f : ℕ → List ℕ → Bool) → IsShaped line → in_thread line f ≡ true →
      ((s : ℕ) (a : List ℕ) → stack_of line ≡ a → length (levels_of line) ≡ length a + 1 → kind_of line ≡ Thread s a [] → f s a ≡ true → P s a) → ThreadIs (image_of image costs) (cert_of image cert costs) (kind_of line) P
  thread-is P line.Bare f sh h k = absurd (false≢true h)
  thread-is P (line.Thread s a [] v) f sh h k = k s a refl sh refl h
  thread-is P (line.Thread s a (x ∷ l) v) f sh h k = absurd (some-length x l (and_parts (length (x ∷ l) == 0) (f s a) h).0)
  thread-is P (line.Routine g l v) f sh h k = absurd (false≢true h)
  thread-is P (line.Cond v) f sh h k = absurd (false≢true h)

  pub thread-fact : (line : Line) (f : ℕ → List ℕ → Bool) → in_thread line f ≡ true → (s : ℕ) × (b : List ℕ) × (f s b ≡ true)
  thread-fact line.Bare f h = absurd (false≢true h)
  thread-fact (line.Thread s a l v) f h = (s, a, (and_parts (length l == 0) (f s a) h).1)
  thread-fact (line.Routine g l v) f h = absurd (false≢true h)
  thread-fact (line.Cond v) f h = absurd (false≢true h)

  pub loops-are : (P : List ℕ → Type 0) (line : Line) → IsLooping line → length (loops_of line) ≤ 8 → P (reverse (loops_of line)) → LoopsAre (image_of image costs) (cert_of image cert costs) (kind_of line) P
  loops-are P line.Bare t few h = absurd t
  loops-are P (line.Thread s a l v) t few h = let L : kinds.Line → Type 0 = λ k. LoopsAre (image_of image costs) (cert_of image cert costs) k P in subst L (sym (short-is l (Thread s a (reverse l)) few)) h
  loops-are P (line.Routine g l v) t few h = let L : kinds.Line → Type 0 = λ k. LoopsAre (image_of image costs) (cert_of image cert costs) k P in subst L (sym (short-is l (Routine g (reverse l)) few)) h
  loops-are P (line.Cond v) t few h = absurd t
