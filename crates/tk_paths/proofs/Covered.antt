-- Greatest numbers reach what the last two conditions of acceptance ask: resuming, and the bound.
use Rattle.std.proofs.Common.{◌≡◌, ◌⊎◌, ◌≤◌, ◌+◌, ◌++◌, ◌==◌, ◌||◌, ℕ, zero, suc, nat_le, Bool, true, false, if◌then◌else◌, List, [], ◌∷◌, filter, flat_map, length, is_some, Option, Some, None, refl, sym, ap, ◌∙◌, subst, inl, inr, ⊎_elim, eqb-true, leb-true, arith}
use Rattle.std.proofs.lemmas.Bool.{false≢true, or_cases}
use Rattle.std.proofs.lemmas.Bool.Decides.{nat_tests}
use Rattle.std.proofs.lemmas.Option.{none-some, same_Some}
use Rattle.std.specs.List.{AllByRecursion}
use Rattle.mb_isa.specs.declared.Instr.{Instr}
use Rattle.mb_isa.specs.declared.Instr.TheVariants as instr
use Rattle.pt_image.specs.declared.Point.{Point}
use Rattle.pt_image.specs.declared.Parts.{Parts}
use Rattle.mb_isa.specs.Tick.{base_of}
use Rattle.tk_cert.specs.declared.cert.CertParts.{CertParts}
use Rattle.tk_cert.specs.Demands.{Demand, at_least, reaches, AllHold}
use Rattle.tk_paths.specs.declared.view.Side.{Side}
use Rattle.tk_paths.specs.declared.view.Side.TheVariants.{ToPause, ToEnd}
use Rattle.tk_paths.specs.Sums.{plus, greater, or_zero, and_more, resumed_most, greatest}
use Rattle.tk_paths.specs.Words.{instr_at}
use Rattle.tk_paths.specs.Kinds.{abort_at, points_at, places_of}
use Rattle.tk_paths.specs.Shape.{children_in, children_at}
use Rattle.tk_paths.specs.Acceptance.{value, resumed, begins, more, strong_handlers, weak_handlers, conditions, resumes, resumed_strong, pause_resumes, resumed_handlers, resumed_join, has_resumed, fork_resumes, resuming, bounded}
use Rattle.tk_paths.proofs.Lists.{IsAmong}
use Rattle.tk_paths.proofs.Carried.{le-test}
use Rattle.tk_paths.specs.Greatest.{stays, where_some, best, num, handlers, resting, tested, paused, ending_sum, pausing_sum, joined, waited_by, waited, IsGreatest}

-- a number reaches another, where that one is there
abbrev pub Covers : Option ℕ → Option ℕ → Type 0
Covers given needed = (n : ℕ) → needed ≡ Some n → (m : ℕ) × (given ≡ Some m) × (n ≤ m)

pub holds-of : (c at l : ℕ) (given needed : Option ℕ) → Covers given needed → AllHold (at_least c at l given needed)
holds-of c at l given None h = tt
holds-of c at l given (Some n) h =
    let m = h n refl in
    (ap (λ o. reaches o n) m.1 ∙ le-test n m.0 m.2, tt)

itself : (o : Option ℕ) → Covers o o
itself o n e = (n, e, omega arith)

pub through : (a b c : Option ℕ) → Covers a b → Covers b c → Covers a c
through a b c f g n e = let x = g n e in let y = f x.0 x.1 in (y.0, y.1, (let l = x.2 in let r = y.2 in omega (arith, l, r)))

pub greater-left : (a b : Option ℕ) → Covers (greater a b) a
greater-left None b n e = absurd (none-some n e)
greater-left (Some x) None n e = (n, e, omega arith)
greater-left (Some x) (Some y) n e = by (nat_le x y) refl
  where
    same : x ≡ n
    same = same_Some x n e

    by : (c : Bool) → nat_le x y ≡ c → (m : ℕ) × (Some (if c then y else x) ≡ Some m) × (n ≤ m)
    by true k = let l : x ≤ y = leb-true x y k in let s : x ≡ n = same in (y, refl, omega (arith, l, s))
    by false k = let s : x ≡ n = same in (x, refl, omega (arith, s))

pub greater-right : (a b : Option ℕ) → Covers (greater a b) b
greater-right None b n e = (n, e, omega arith)
greater-right (Some x) None n e = absurd (none-some n e)
greater-right (Some x) (Some y) n e = by (nat_le x y) refl
  where
    same : y ≡ n
    same = same_Some y n e

    by : (c : Bool) → nat_le x y ≡ c → (m : ℕ) × (Some (if c then y else x) ≡ Some m) × (n ≤ m)
    by true k = let s : y ≡ n = same in (y, refl, omega (arith, s))
    by false k = let s : y ≡ n = same in let l : n ≤ x = grind (arith, nat_tests, k, s) in (x, refl, l)

pub more-covers : (c : ℕ) (a b : Option ℕ) → Covers a b → Covers (more c a) (more c b)
more-covers c a None f n e = absurd (none-some n e)
more-covers c a (Some y) f n e =
    let x = f y refl in
    let s : c + y ≡ n = same_Some (c + y) n e in
    (c + x.0, ap (more c) x.1, (let l = x.2 in omega (arith, l, s)))

pub plus-covers : (a b c : Option ℕ) → Covers b c → Covers (plus a b) (plus a c)
plus-covers None b c f n e = absurd (none-some n e)
plus-covers (Some z) b c f n e = more-covers z b c f n e

more-more : (x y : ℕ) (o : Option ℕ) → more x (more y o) ≡ more (x + y) o
more-more x y None = refl
more-more x y (Some m) = let e : x + (y + m) ≡ x + y + m = omega arith in ap Some e

more-none : (o : Option ℕ) → Covers o (more 0 o)
more-none None n e = absurd (none-some n e)
more-none (Some m) n e = let s : 0 + m ≡ n = same_Some (0 + m) n e in (m, refl, omega (arith, s))

-- a group that pauses may stay
pub staying : (a w : Option ℕ) → Covers (plus a (greater (stays ToPause) w)) a
staying None w n e = absurd (none-some n e)
staying (Some x) w n e =
    let z = greater-left (Some 0) w 0 refl in
    let s : x ≡ n = same_Some x n e in
    (x + z.0, ap (plus (Some x)) z.1, omega (arith, s))

pub all-append : {X : Type 0} (P : X → Type 0) (xs ys : List X) → AllByRecursion P xs → AllByRecursion P ys → AllByRecursion P (xs ++ ys)
all-append P [] ys f g = g
all-append P (x ∷ xs) ys f g = (f.0, all-append P xs ys f.1 g)

pub all-flat-in : {X Y : Type 0} (P : Y → Type 0) (f : X → List Y) (xs : List X) → ((x : X) → IsAmong x xs → AllByRecursion P (f x)) → AllByRecursion P (flat_map f xs)
all-flat-in P f [] h = tt
all-flat-in P f (x ∷ xs) h = all-append P (f x) (flat_map f xs) (h x (inl refl)) (all-flat-in P f xs (λ y k. h y (inr k)))

pub among-picked : {X : Type 0} (p : X → Bool) (xs : List X) (x : X) → IsAmong x (filter p xs) → IsAmong x xs × (p x ≡ true)
among-picked p [] x h = absurd h
among-picked {X} p (y ∷ ys) x h = by (p y) refl h (λ k. among-picked p ys x k)
  where
    by : (b : Bool) → p y ≡ b → IsAmong x (if b then y ∷ filter p ys else filter p ys) → (IsAmong x (filter p ys) → IsAmong x ys × (p x ≡ true)) → IsAmong x (y ∷ ys) × (p x ≡ true)
    by true e k later = ⊎_elim (λ s. (inl s, ap p (sym s) ∙ e)) (λ s. let r = later s in (inr r.0, r.1)) k
    by false e k later = let r = later k in (inr r.0, r.1)

abbrev pub Holding : Demand → Type 0
Holding d = d.holds ≡ true

module _ (image : Parts) (cert : CertParts) (costs : List ℕ) where
  -- the strong ones of these aborts, and what is behind all conditions
  strong-hold : (p : Point) (side : Side) (i sum : ℕ) (stack : List ℕ) (rest : Option ℕ) → Covers (resumed image cert costs side p.slot) (more sum (tested image cert costs side i stack rest)) →
      AllHold (strong_handlers image cert costs (λ s j handler. resumes image cert costs p side (more s (num image cert costs side j handler))) sum i stack) × Covers (resumed image cert costs side p.slot) (more (conditions image cert costs sum stack) rest)
  strong-hold p side i sum [] rest h = (tt, h)
  strong-hold p side i sum (j ∷ stack) rest h =
      let given = resumed image cert costs side p.slot in
      let v = value image cert costs ((abort_at image j).cond) in
      let at_handler = num image cert costs side i ((abort_at image j).handler) in
      let strong = if (abort_at image j).weak then None else at_handler in
      let later = tested image cert costs side (i + 1) stack rest in
      let C : Option ℕ → Type 0 = Covers given in
      let whole : Covers given (more (sum + v) (greater strong later)) = subst C (more-more sum v (greater strong later)) h in
      let first = through given (more (sum + v) (greater strong later)) (more (sum + v) strong) whole (more-covers (sum + v) (greater strong later) strong (greater-left strong later)) in
      let second = through given (more (sum + v) (greater strong later)) (more (sum + v) later) whole (more-covers (sum + v) (greater strong later) later (greater-right strong later)) in
      let r = strong-hold p side (i + 1) (sum + v) stack rest second in
      (by (abort_at image j).weak at_handler (sum + v) _ first r.0, r.1)
    where
      by : (b : Bool) (o : Option ℕ) (s : ℕ) (tail : List Demand) → Covers (resumed image cert costs side p.slot) (more s (if b then None else o)) → AllHold tail →
          AllHold ((if b then [] else resumes image cert costs p side (more s o)) ++ tail)
      by true o s tail f t = t
      by false o s tail f t = all-append Holding (resumes image cert costs p side (more s o)) tail (holds-of 6 p.at 0 (resumed image cert costs side p.slot) (more s o) f) t

  -- the weak ones, each behind a charge or a sum
  pub weak-hold : (c at l : ℕ) (given : Option ℕ) (f : Option ℕ → Option ℕ) → ((a b : Option ℕ) → Covers a b → Covers (f a) (f b)) → (side : Side) (i : ℕ) (stack : List ℕ) (k : ℕ) → Covers given (f (handlers image cert costs side i stack k)) →
      AllHold (weak_handlers image cert costs (λ j handler. at_least c at l given (f (num image cert costs side j handler))) i stack k)
  weak-hold c at l given f rises side i [] k h = tt
  weak-hold c at l given f rises side i (j ∷ stack) zero h = tt
  weak-hold c at l given f rises side i (j ∷ stack) (suc k) h =
      let at_handler = num image cert costs side i ((abort_at image j).handler) in
      let weak = if (abort_at image j).weak then at_handler else None in
      let later = handlers image cert costs side (i + 1) stack k in
      let all = greater weak later in
      let tail = weak_handlers image cert costs (λ x handler. at_least c at l given (f (num image cert costs side x handler))) (i + 1) stack k in
      by (abort_at image j).weak at_handler tail (through given (f all) (f weak) h (rises all weak (greater-left weak later))) (weak-hold c at l given f rises side (i + 1) stack k (through given (f all) (f later) h (rises all later (greater-right weak later))))
    where
      by : (b : Bool) (o : Option ℕ) (tail : List Demand) → Covers given (f (if b then o else None)) → AllHold tail → AllHold ((if b then at_least c at l given (f o) else []) ++ tail)
      by true o tail g t = all-append Holding (at_least c at l given (f o)) tail (holds-of c at l given (f o) g) t
      by false o tail g t = t

  -- the greatest of a slot's points covers each of them
  best-covers : (given : Point → Option ℕ) (points : List Point) (p : Point) → IsAmong p points → Covers (best given p.slot points) (given p)
  best-covers given [] p h = absurd h
  best-covers given (x ∷ points) p h = by (x.slot == p.slot) refl h (λ k. best-covers given points p k)
    where
      own : (q : Point) → (q.slot == q.slot) ≡ true
      own q = grind (arith, nat_tests)

      by : (b : Bool) → (x.slot == p.slot) ≡ b → (x ≡ p) ⊎ IsAmong p points → (IsAmong p points → Covers (best given p.slot points) (given p)) →
          Covers (if b then greater (given x) (best given p.slot points) else best given p.slot points) (given p)
      by true e k later =
          ⊎_elim
          (λ s. let C : Point → Type 0 = λ y. Covers (greater (given x) (best given p.slot points)) (given y) in subst C s (greater-left (given x) (best given p.slot points)))
          (λ s. through (greater (given x) (best given p.slot points)) (best given p.slot points) (given p) (greater-right (given x) (best given p.slot points)) (later s)) k
      by false e k later = ⊎_elim (λ s. absurd (false≢true (sym e ∙ ap (λ (y : Point). y.slot == p.slot) s ∙ own p))) (λ s. later s) k

  -- some child has a number
  abbrev IsThere : Option ℕ → Type 0
  IsThere o = (g : ℕ) × (o ≡ Some g)

  there-some : (o : Option ℕ) → is_some o ≡ true → IsThere o
  there-some None h = absurd (false≢true h)
  there-some (Some g) h = (g, refl)

  greater-there : (a b : Option ℕ) → IsThere a ⊎ IsThere b → IsThere (greater a b)
  greater-there None b h = ⊎_elim (λ x. absurd (none-some x.0 x.1)) (λ x. x) h
  greater-there (Some x) None h = (x, refl)
  greater-there (Some x) (Some y) h = (_, refl)

  some-child : (n c : ℕ) → has_resumed image cert costs c n ≡ true → IsThere (ending_sum image cert costs c n) ⊎ IsThere (pausing_sum image cert costs c n)
  some-child zero c h = absurd (false≢true h)
  some-child (suc n) c h =
      let P = resumed image cert costs ToPause c in
      let E = resumed image cert costs ToEnd c in
      let ends = ending_sum image cert costs (c + 1) n in
      let pauses = pausing_sum image cert costs (c + 1) n in
      let m = resumed_most (resumed image cert costs) (c + 1) n in
      ⊎_elim
      (λ x. ⊎_elim
      (λ p. let q = there-some P p in inr (greater-there (plus P (Some m)) (plus (Some (or_zero E)) pauses) (inl (q.0 + m, ap (λ o. plus o (Some m)) q.1))))
      (λ e. let q = there-some E e in inl (q.0 + or_zero ends, ap (λ o. and_more o ends) q.1))
      (or_cases (is_some P) (is_some E) x))
      (λ x. ⊎_elim (λ e. inl (behind E ends e)) (λ q. inr (greater-there (plus P (Some m)) (plus (Some (or_zero E)) pauses) (inr (or_zero E + q.0, ap (plus (Some (or_zero E))) q.1)))) (some-child n (c + 1) x))
      (or_cases (is_some P || is_some E) (has_resumed image cert costs (c + 1) n) h)
    where
      behind : (a b : Option ℕ) → IsThere b → IsThere (and_more a b)
      behind None b x = x
      behind (Some v) b x = (v + or_zero b, refl)

  module _ (g : IsGreatest image cert costs) where
    slot-covers : (side : Side) (p : Point) → IsAmong p image.pauses → Covers (resumed image cert costs side p.slot) (paused image cert costs side p)
    slot-covers side p h =
        let a = best (paused image cert costs side) p.slot image.pauses in
        let b = best (waited image cert costs side) p.slot image.forks in
        let C : Option ℕ → Type 0 = λ o. Covers o (paused image cert costs side p) in
        subst C (sym (g.slot p.slot side)) (through (greater a b) a (paused image cert costs side p) (greater-left a b) (best-covers (paused image cert costs side) image.pauses p h))

    slot-waits : (side : Side) (p : Point) → IsAmong p image.forks → Covers (resumed image cert costs side p.slot) (waited image cert costs side p)
    slot-waits side p h =
        let a = best (paused image cert costs side) p.slot image.pauses in
        let b = best (waited image cert costs side) p.slot image.forks in
        let C : Option ℕ → Type 0 = λ o. Covers o (waited image cert costs side p) in
        subst C (sym (g.slot p.slot side)) (through (greater a b) b (waited image cert costs side p) (greater-right a b) (best-covers (waited image cert costs side) image.forks p h))

    pause-holds : (side : Side) (p : Point) → IsAmong p image.pauses → AllHold (pause_resumes image cert costs p side)
    pause-holds side p h =
        let given = resumed image cert costs side p.slot in
        let rest = num image cert costs side (length p.stack) (p.at + 1) in
        let t = tested image cert costs side 0 p.stack rest in
        let s = strong-hold p side 0 0 p.stack rest (through given t (more 0 t) (slot-covers side p h) (more-none t)) in
        all-append Holding (resumed_strong image cert costs p side) (resumes image cert costs p side (more (conditions image cert costs 0 p.stack) rest)) s.0 (holds-of 6 p.at 0 given (more (conditions image cert costs 0 p.stack) rest) s.1)

    -- of a fork, at one side
    pub record Joins (p : Point) (lo count : ℕ) (side : Side) : Type 0 where
      pub strong : AllHold (resumed_strong image cert costs p side)
      pub join : AllHold (resumed_join image cert costs p lo count side)
      pub rest : Covers (resumed image cert costs side p.slot) (more (conditions image cert costs 0 p.stack) (plus (pausing_sum image cert costs lo count) (resting image cert costs p.stack (length p.stack) side)))
      pub handled : AllHold (resumed_handlers image cert costs p lo count side)

    joins : (side : Side) (p : Point) (lo count : ℕ) → Covers (resumed image cert costs side p.slot) (tested image cert costs side 0 p.stack (joined image cert costs side p lo count)) → Joins p lo count side
    joins side p lo count h =
        let given = resumed image cert costs side p.slot in
        let C = conditions image cert costs 0 p.stack in
        let k = length p.stack in
        let r = resting image cert costs p.stack k side in
        let w = handlers image cert costs side 0 p.stack k in
        let a = plus (pausing_sum image cert costs lo count) r in
        let b = plus (ending_sum image cert costs lo count) (num image cert costs side k (p.at + 1)) in
        let t = tested image cert costs side 0 p.stack (greater a b) in
        let s = strong-hold p side 0 0 p.stack (greater a b) (through given t (more 0 t) h (more-none t)) in
        let first = through given (more C (greater a b)) (more C a) s.1 (more-covers C (greater a b) a (greater-left a b)) in
        let second = through given (more C (greater a b)) (more C b) s.1 (more-covers C (greater a b) b (greater-right a b)) in
        let third = through given (more C a) (more C (plus (pausing_sum image cert costs lo count) w)) first
        (more-covers C a (plus (pausing_sum image cert costs lo count) w) (plus-covers (pausing_sum image cert costs lo count) r w (greater-right (stays side) w))) in
        record {
          strong = s.0;
          join = holds-of 6 p.at 0 given (more C b) second;
          rest = first;
          handled = weak-hold 6 p.at 0 given (λ o. more C (plus (pausing_sum image cert costs lo count) o))
              (λ x y f. more-covers C (plus (pausing_sum image cert costs lo count) x) (plus (pausing_sum image cert costs lo count) y) (plus-covers (pausing_sum image cert costs lo count) x y f)) side 0 p.stack k third;
        }

    joins-hold : (p : Point) (lo count : ℕ) → Joins p lo count ToPause → Joins p lo count ToEnd →
        AllHold (resumed_strong image cert costs p ToPause ++ resumed_join image cert costs p lo count ToPause ++ resumes image cert costs p ToPause (more (conditions image cert costs 0 p.stack) (pausing_sum image cert costs lo count))
        ++ resumed_handlers image cert costs p lo count ToPause ++ resumed_strong image cert costs p ToEnd ++ resumed_join image cert costs p lo count ToEnd ++ resumed_handlers image cert costs p lo count ToEnd)
    joins-hold p lo count x y =
        let given = resumed image cert costs ToPause p.slot in
        let C = conditions image cert costs 0 p.stack in
        let s = pausing_sum image cert costs lo count in
        let w = handlers image cert costs ToPause 0 p.stack (length p.stack) in
        let r = greater (stays ToPause) w in
        let pause = holds-of 6 p.at 0 given (more C s) (through given (more C (plus s r)) (more C s) x.rest (more-covers C (plus s r) s (staying s w))) in
        let A = resumed_strong image cert costs p ToPause in
        let B = resumed_join image cert costs p lo count ToPause in
        let G = resumes image cert costs p ToPause (more C s) in
        let H = resumed_handlers image cert costs p lo count ToPause in
        let I = resumed_strong image cert costs p ToEnd in
        let J = resumed_join image cert costs p lo count ToEnd in
        let K = resumed_handlers image cert costs p lo count ToEnd in
        all-append Holding (A ++ B ++ G ++ H ++ I ++ J) K
        (all-append Holding (A ++ B ++ G ++ H ++ I) J
        (all-append Holding (A ++ B ++ G ++ H) I (all-append Holding (A ++ B ++ G) H (all-append Holding (A ++ B) G (all-append Holding A B x.strong x.join) pause) x.handled) y.strong) y.join) y.handled

    fork-holds : (p : Point) (o : Option Instr) → ((side : Side) → Covers (resumed image cert costs side p.slot) (waited_by image cert costs o side p)) → AllHold (fork_resumes image cert costs p ((children_in o).0) ((children_in o).1))
    fork-holds p None h = tt
    fork-holds p (Some (instr.Fork lo count)) h = by (has_resumed image cert costs lo count) refl
      where
        opened : (a b : Option ℕ) (side : Side) → IsThere a → Covers (resumed image cert costs side p.slot) (where_some a b) → Covers (resumed image cert costs side p.slot) b
        opened None b side x f = absurd (none-some x.0 x.1)
        opened (Some z) b side x f = f

        by : (b : Bool) → has_resumed image cert costs lo count ≡ b →
            AllHold (if b then resumed_strong image cert costs p ToPause ++ resumed_join image cert costs p lo count ToPause ++ resumes image cert costs p ToPause (more (conditions image cert costs 0 p.stack) (pausing_sum image cert costs lo count))
            ++ resumed_handlers image cert costs p lo count ToPause ++ resumed_strong image cert costs p ToEnd ++ resumed_join image cert costs p lo count ToEnd ++ resumed_handlers image cert costs p lo count ToEnd
            else [])
        by false e = tt
        by true e =
            let sums = greater (ending_sum image cert costs lo count) (pausing_sum image cert costs lo count) in
            let there = greater-there (ending_sum image cert costs lo count) (pausing_sum image cert costs lo count) (some-child count lo e) in
            let j : (side : Side) → Joins p lo count side = λ side. joins side p lo count (opened sums (tested image cert costs side 0 p.stack (joined image cert costs side p lo count)) side there (h side)) in
            joins-hold p lo count (j ToPause) (j ToEnd)
    fork-holds p (Some other) h = tt

    resuming-holds : AllHold (resuming image cert costs)
    resuming-holds =
        all-flat-in Holding (λ place. flat_map (λ p. pause_resumes image cert costs p ToPause ++ pause_resumes image cert costs p ToEnd) (points_at image.pauses place)
        ++ flat_map (λ p. fork_resumes image cert costs p ((children_at image place).0) ((children_at image place).1)) (points_at image.forks place)) (places_of image)
        (λ place within.
        all-append Holding (flat_map (λ p. pause_resumes image cert costs p ToPause ++ pause_resumes image cert costs p ToEnd) (points_at image.pauses place))
        (flat_map (λ p. fork_resumes image cert costs p ((children_at image place).0) ((children_at image place).1)) (points_at image.forks place))
        (all-flat-in Holding (λ p. pause_resumes image cert costs p ToPause ++ pause_resumes image cert costs p ToEnd) (points_at image.pauses place)
        (λ p h.
        let a = among-picked (λ (q : Point). q.at == place) image.pauses p h in
        all-append Holding (pause_resumes image cert costs p ToPause) (pause_resumes image cert costs p ToEnd) (pause-holds ToPause p a.0) (pause-holds ToEnd p a.0)))
        (all-flat-in Holding (λ p. fork_resumes image cert costs p ((children_at image place).0) ((children_at image place).1)) (points_at image.forks place)
        (λ p h.
        let a = among-picked (λ (q : Point). q.at == place) image.forks p h in
        let F : ℕ → Type 0 = λ x. AllHold (fork_resumes image cert costs p ((children_at image x).0) ((children_at image x).1)) in
        let e : p.at ≡ place = eqb-true p.at place a.1 in
        subst F e (fork-holds p (instr_at image p.at) (λ side. slot-waits side p a.0)))))

    bounded-holds : AllHold (bounded image cert costs)
    bounded-holds =
        let most = base_of image costs + greatest (begins image cert costs ToPause 0 ∷ begins image cert costs ToEnd 0 ∷ resumed image cert costs ToPause 0 ∷ resumed image cert costs ToEnd 0 ∷ []) in
        holds-of 7 0 0 (Some cert.bound) (Some most) (λ n e. let s : most ≡ n = same_Some most n e in let b : cert.bound ≡ most = g.bound in (cert.bound, refl, omega (arith, s, b)))

    pub covered : AllHold (resuming image cert costs ++ bounded image cert costs)
    covered = all-append Holding (resuming image cert costs) (bounded image cert costs) resuming-holds bounded-holds
