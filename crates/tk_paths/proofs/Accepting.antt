-- A certificate all of whose places are good is accepted, and its numbers are the greatest.
use Rattle.std.proofs.Common.{◌≡◌, ◌⊎◌, ◌<◌, ◌+◌, ◌++◌, ◌==◌, ◌&&◌, ℕ, ℤ, zero, suc, not, nat_lt, nat_le, Bool, true, false, if◌then◌else◌, List, [], ◌∷◌, map, flat_map, length, slice_index_or, Option, Some, None, refl, sym, ap, ◌∙◌, subst, inl, inr, ⊎_elim, eqb-true, eq-eqb, arith}
use Rattle.std.proofs.lemmas.Bool.{false≢true, and_parts, cases_lt}
use Rattle.std.proofs.lemmas.List.{get_or_past}
use Rattle.std.proofs.lemmas.Option.{none-some}
use Rattle.std.specs.List.{AllByRecursion, IsDistinct, list_all, range_with_len}
use Rattle.mb_isa.specs.declared.Instr.{Instr}
use Rattle.mb_isa.specs.declared.Instr.TheVariants as instr
use Rattle.mb_isa.specs.Classes.{takes_upper}
use Rattle.mb_isa.specs.Costs.{IsCosts}
use Rattle.pt_image.specs.declared.Point.{Point}
use Rattle.pt_image.specs.declared.Parts.{Parts}
use Rattle.pt_image.specs.Ranges.{places_of, IsImage}
use Rattle.pt_image.specs.Listed.{is_listed, is_point, same_numbers}
use Rattle.mb_isa.specs.Tick.{base_of}
use Rattle.tk_cert.specs.declared.cert.Line.{Line}
use Rattle.tk_cert.specs.declared.cert.Line.TheVariants.{Bare, Thread, Routine, Cond}
use Rattle.tk_cert.specs.declared.cert.CertParts.{CertParts}
use Rattle.tk_cert.specs.Shapes.{IsShaped, RiseFrom, IsCert}
use Rattle.tk_cert.specs.Demands.{shape_demand, AllHold}
use Rattle.tk_paths.specs.declared.view.Side.{Side}
use Rattle.tk_paths.specs.declared.word.Word.TheVariants.{Eot, Fork}
use Rattle.tk_paths.specs.Words.{instr_at, word_of, read_instr, read}
use Rattle.tk_paths.specs.Kinds.{line_at, is_thread, is_cond, upper_at, word_at, places_of as code_places, start_of, points_at, asked_from_line, asked_from, asked, is_asked}
use Rattle.tk_paths.specs.Shape.{is_pause_word, is_fork_word, in_thread, children_start, keeps_kind, word_is_shaped, says_well, line_is_shaped, pause_is_shaped, fork_is_shaped, place_is_shaped, shape, apart}
use Rattle.tk_paths.specs.Sums.{greater, greatest as greatest_of}
use Rattle.tk_paths.specs.Acceptance.{resumed, line_edges, edges, pauses, forks, resuming, bounded}
use Rattle.tk_paths.specs.Bounded.{IsAcceptedFor}
use Rattle.tk_paths.proofs.Lists.{IsAmong, any-passes, all-left, all-right, all-map, three_parts}
use Rattle.tk_paths.proofs.Accepts.{nothing}
use Rattle.tk_paths.proofs.Carried.{same-list, lt-true}
use Rattle.tk_paths.specs.Reached.{IsOpen}
use Rattle.tk_paths.specs.Regions.{Region}
use Rattle.tk_paths.specs.Greatest.{best, paused, waited, beginnings, IsStraightCondition, IsGreatest}
use Rattle.tk_paths.proofs.Covered.{all-append, all-flat-in, among-picked, Holding, covered as beginnings-covered}
use Rattle.tk_paths.proofs.Lines.{own-thread}
use Rattle.tk_paths.proofs.OpenPlaces.{IsStepWith, great-of}
use Rattle.tk_paths.proofs.PlaceLaws.{and-two, among-either, IsPlain, Unasked, IsGood}
use Rattle.tk_paths.proofs.Rested.{rests-covered}

-- ---- lists

among-mapped : {X Y : Type 0} (f : X → Y) (y : Y) (xs : List X) → IsAmong y (map f xs) → (x : X) × IsAmong x xs × (f x ≡ y)
among-mapped f y [] h = absurd h
among-mapped f y (x ∷ xs) h = ⊎_elim (λ e. (x, inl refl, e)) (λ k. let r = among-mapped f y xs k in (r.0, inr r.1, r.2)) h

among-flattened : {X Y : Type 0} (f : X → List Y) (y : Y) (xs : List X) → IsAmong y (flat_map f xs) → (x : X) × IsAmong x xs × IsAmong y (f x)
among-flattened f y [] h = absurd h
among-flattened f y (x ∷ xs) h = ⊎_elim (λ k. (x, inl refl, k)) (λ k. let r = among-flattened f y xs k in (r.0, inr r.1, r.2)) (among-either y (f x) (flat_map f xs) h)

range-within : (n low k : ℕ) → IsAmong k (range_with_len low n) → k < low + n
range-within zero low k h = absurd h
range-within (suc n) low k h = ⊎_elim (λ e. omega (arith, e)) (λ x. let r = range-within n (low + 1) k x in omega (arith, r)) h

passes-each : {X : Type 0} (p : X → Bool) (xs : List X) → ((x : X) → IsAmong x xs → p x ≡ true) → list_all p xs ≡ true
passes-each p [] f = refl
passes-each p (x ∷ xs) f = and-two (p x) (list_all p xs) (f x (inl refl)) (passes-each p xs (λ y k. f y (inr k)))

holds-each : {X Y : Type 0} (P : Y → Type 0) (f : X → Y) (xs : List X) → ((x : X) → IsAmong x xs → P (f x)) → AllByRecursion P (map f xs)
holds-each P f [] h = tt
holds-each P f (x ∷ xs) h = (h x (inl refl), holds-each P f xs (λ y k. h y (inr k)))

all-by-index : {X : Type 0} (P : X → Type 0) (xs : List X) (other : X) → ((i : ℕ) → i < length xs → P (slice_index_or xs i other)) → AllByRecursion P xs
all-by-index P [] other f = tt
all-by-index P (x ∷ xs) other f = (f 0 (omega arith), all-by-index P xs other (λ i h. f (suc i) (omega (arith, h))))

-- no two points of a list stand at one place
one-point : (points : List Point) (p q : Point) → IsDistinct (λ m n. m == n) (places_of points) → IsAmong p points → IsAmong q points → p.at ≡ q.at → p ≡ q
unfolding IsDistinct
one-point [] p q d h k e = absurd h
one-point (x ∷ xs) p q d h k e =
    let other : (y : Point) → IsAmong y xs → x.at ≡ y.at → ⊥ = λ y m s.
    false≢true (sym (all-map (λ (n : ℕ). (x.at == n) ≡ false) (λ (z : Point). z.at) xs y d.0 m) ∙ eq-eqb x.at y.at s) in
    ⊎_elim
    (λ a. ⊎_elim (λ b. sym a ∙ b) (λ b. absurd (other q b (ap (λ (z : Point). z.at) a ∙ e))) k)
    (λ a. ⊎_elim (λ b. absurd (other p a (ap (λ (z : Point). z.at) b ∙ sym e))) (λ b. one-point xs p q d.1 a b e) k) h

-- a listed point
listed-point : (points : List Point) (at s : ℕ) (a : List ℕ) → is_listed points at s a ≡ true → (q : Point) × IsAmong q points × (q.at ≡ at) × (q.slot ≡ s) × (q.stack ≡ a)
listed-point points at s a h =
    let w = any-passes (is_point at s a) points h in
    let q = w.which in
    let t = three_parts (q.at == at) (q.slot == s) (same_numbers q.stack a) w.passes in
    (q, w.among, eqb-true q.at at t.0, eqb-true q.slot s t.1, same-list q.stack a t.2)

-- a thread's line inside no loop
thread-line : (l : Line) (f : ℕ → List ℕ → Bool) → in_thread l f ≡ true → (s : ℕ) × (a : List ℕ) × (is_thread s a [] l ≡ true) × (f s a ≡ true)
thread-line Bare f h = absurd (false≢true h)
thread-line (Thread s a l v) f h =
    let p = and_parts (length l == 0) (f s a) h in
    let e = nothing l p.0 in
    let T : List ℕ → Type 0 = λ x. is_thread s a x (Thread s a l v) ≡ true in
    (s, a, subst T e (own-thread s a l v), p.1)
thread-line (Routine g l v) f h = absurd (false≢true h)
thread-line (Cond v) f h = absurd (false≢true h)

word-part : (image : Parts) (cert : CertParts) (p : ℕ) (l : Line) → (l ≡ Bare → ⊥) → line_is_shaped image cert p l ≡ true → word_is_shaped image cert p l (word_at image cert.lines p) ≡ true
word-part image cert p Bare spoken h = absurd (spoken refl)
word-part image cert p (Thread s a l v) spoken h = (and_parts (says_well image cert (Thread s a l v)) (word_is_shaped image cert p (Thread s a l v) (word_at image cert.lines p)) h).1
word-part image cert p (Routine g l v) spoken h = (and_parts (says_well image cert (Routine g l v)) (word_is_shaped image cert p (Routine g l v) (word_at image cert.lines p)) h).1
word-part image cert p (Cond v) spoken h = (and_parts (says_well image cert (Cond v)) (word_is_shaped image cert p (Cond v) (word_at image cert.lines p)) h).1

-- What is known of a certificate: each place is good or says nothing, and the rest stands as acceptance wants it.
pub record IsSound (image : Parts) (cert : CertParts) (costs : List ℕ) (find : ℕ → Option Region) : Type 0 where
  pub covered : (p : ℕ) → p < length image.code → IsGood image cert costs find p ⊎ (line_at cert.lines p ≡ Bare)
  pub size : length cert.lines ≡ length image.code
  pub slots_size : length cert.slot_bounds ≡ length image.slots
  pub start : is_thread 0 [] [] (line_at cert.lines (start_of image 0)) ≡ true
  pub start_plain : IsPlain image cert costs find (start_of image 0)
  pub weights : RiseFrom 0 cert.weights
  pub pause : (p : Point) → IsAmong p image.pauses → (instr_at image p.at ≡ Some instr.Eot) × IsGood image cert costs find p.at
  pub fork : (p : Point) → IsAmong p image.forks → (lo n : ℕ) × (instr_at image p.at ≡ Some (instr.Fork lo n)) × IsGood image cert costs find p.at
  pub apart : AllHold (apart image)
  pub slot : ((p : Point) → IsAmong p image.forks → (lo n : ℕ) → instr_at image p.at ≡ Some (instr.Fork lo n) → p.slot < lo) → (s : ℕ) (side : Side) →
      resumed image cert costs side s ≡ greater (best (paused image cert costs side) s image.pauses) (best (waited image cert costs side) s image.forks)
  pub bound : cert.bound ≡ base_of image costs + greatest_of (beginnings image cert costs)

module _ (image : Parts) (cert : CertParts) (costs : List ℕ) (find : ℕ → Option Region) (image_is : IsImage image) (sound : IsSound image cert costs find) where
  abbrev Plain : ℕ → Type 0
  Plain = IsPlain image cert costs find

  abbrev line_of : ℕ → Line
  line_of p = line_at cert.lines p

  abbrev GoodAt : ℕ → Type 0
  GoodAt = IsGood image cert costs find

  -- a word that takes no upper half is read with none
  good-plain : (p : ℕ) (i : Instr) → GoodAt p → instr_at image p ≡ Some i → takes_upper i ≡ false → Plain p
  good-plain p i g e h = by (upper_at image cert.lines p) (let R : Option Instr → Type 0 = λ o. read_instr image p (upper_at image cert.lines p) o ≡ Some (g.word.0) in subst R e g.word.1)
    where
      by : (o : Option ℤ) → read_instr image p o (Some i) ≡ Some (g.word.0) → o ≡ None
      by None k = refl
      by (Some u) k = absurd (none-some g.word.0 (sym (ap (λ b. if not b then None else Some (word_of image p (Some u) i)) h) ∙ k))

  pause-good : (p : Point) → IsAmong p image.pauses → GoodAt p.at
  pause-good p h = (sound.pause p h).1

  fork-good : (p : Point) → IsAmong p image.forks → GoodAt p.at
  fork-good p h = (sound.fork p h).3

  pause-plain : (p : Point) → IsAmong p image.pauses → Plain p.at
  pause-plain p h = good-plain p.at instr.Eot (pause-good p h) (sound.pause p h).0 refl

  fork-plain : (p : Point) → IsAmong p image.forks → Plain p.at
  fork-plain p h = let f = sound.fork p h in good-plain p.at (instr.Fork f.0 f.1) (fork-good p h) f.2 refl

  covered-at : (p : ℕ) → IsAmong p (code_places image) → GoodAt p ⊎ (line_of p ≡ Bare)
  covered-at p h = let w = range-within (length image.code) 0 p h in sound.covered p (omega (arith, w))

  -- ---- what is asked for

  asked-plain : (goal : ℕ) → IsAmong goal (asked image cert.lines) → Plain goal
  asked-plain goal h =
      let at : Point → ℕ = λ p. p.at in
      let A = start_of image 0 ∷ map at image.pauses in
      let B = map at image.forks in
      ⊎_elim
      (λ k. ⊎_elim
      (λ m. ⊎_elim (λ e. subst Plain e sound.start_plain)
      (λ x. let r = among-mapped at goal image.pauses x in subst Plain r.2 (pause-plain r.0 r.1)) m)
      (λ m. let r = among-mapped at goal image.forks m in subst Plain r.2 (fork-plain r.0 r.1))
      (among-either goal A B k))
      (λ k.
      let r = among-flattened (asked_from image cert.lines) goal (code_places image) k in
      let L : Line → Type 0 = λ l. IsAmong goal (asked_from_line image cert.lines r.0 l) in
      ⊎_elim (λ g. g.asks goal r.2) (λ b. absurd (subst L b r.2)) (covered-at r.0 r.1))
      (among-either goal (A ++ B) (flat_map (asked_from image cert.lines) (code_places image)) h)

  unasked : Unasked image cert costs find
  unasked p u h = by (is_asked image cert.lines p) refl
    where
      by : (b : Bool) → is_asked image cert.lines p ≡ b → b ≡ false
      by false e = refl
      by true e =
          let w = any-passes (λ goal. goal == p) (asked image cert.lines) e in
          absurd (none-some u (sym (subst Plain (eqb-true w.which p w.passes) (asked-plain w.which w.among)) ∙ h))

  shaped-at : (p : ℕ) → IsAmong p (code_places image) → line_is_shaped image cert p (line_of p) ≡ true
  shaped-at p h = let S : Line → Type 0 = λ l. line_is_shaped image cert p l ≡ true in ⊎_elim (λ g. g.shaped unasked) (λ b. subst S (sym b) refl) (covered-at p h)

  -- ---- listed points

  pause-kind : (p : Point) → IsAmong p image.pauses → is_thread p.slot p.stack [] (line_of p.at) ≡ true
  pause-kind p h =
      let g = pause-good p h in
      let word : word_at image cert.lines p.at ≡ Some Eot = ap (read image p.at) (pause-plain p h) ∙ ap (read_instr image p.at None) (sound.pause p h).0 in
      let s = ap (word_is_shaped image cert p.at (line_of p.at)) (sym word) ∙ word-part image cert p.at (line_of p.at) g.spoken (g.shaped unasked) in
      let t = thread-line (line_of p.at) (λ slot stack. is_listed image.pauses p.at slot stack && keeps_kind image cert (line_of p.at) (p.at + 1)) s in
      let q = listed-point image.pauses p.at t.0 t.1 (and_parts (is_listed image.pauses p.at t.0 t.1) (keeps_kind image cert (line_of p.at) (p.at + 1)) t.3).0 in
      let same : q.0 ≡ p = one-point image.pauses q.0 p image_is.pauses.2 q.1 h q.2 in
      let T : ℕ → List ℕ → Type 0 = λ x y. is_thread x y [] (line_of p.at) ≡ true in
      let slot : t.0 ≡ p.slot = sym q.3 ∙ ap (λ (z : Point). z.slot) same in
      let stack : t.1 ≡ p.stack = sym q.4 ∙ ap (λ (z : Point). z.stack) same in
      subst (λ y. T p.slot y) stack (subst (λ x. T x t.1) slot t.2)

  pub fork-kind : (p : Point) (h : IsAmong p image.forks) → (is_thread p.slot p.stack [] (line_of p.at) ≡ true) × (p.slot < (sound.fork p h).0)
  fork-kind p h =
      let g = fork-good p h in
      let f = sound.fork p h in
      let lo = f.0 in
      let n = f.1 in
      let word : word_at image cert.lines p.at ≡ Some (Fork lo n) = ap (read image p.at) (fork-plain p h) ∙ ap (read_instr image p.at None) f.2 in
      let s = ap (word_is_shaped image cert p.at (line_of p.at)) (sym word) ∙ word-part image cert p.at (line_of p.at) g.spoken (g.shaped unasked) in
      let listed : ℕ → List ℕ → Bool = λ slot stack. is_listed image.forks p.at slot stack in
      let kids = children_start image cert lo n in
      let room = nat_le (lo + n) (length image.slots) in
      let keeps = keeps_kind image cert (line_of p.at) (p.at + 1) in
      let t = thread-line (line_of p.at) (λ slot stack. listed slot stack && nat_lt slot lo && nat_lt 0 n && room && kids && keeps) s in
      let a = (and_parts (listed t.0 t.1 && nat_lt t.0 lo && nat_lt 0 n && room && kids) keeps t.3).0 in
      let b = (and_parts (listed t.0 t.1 && nat_lt t.0 lo && nat_lt 0 n && room) kids a).0 in
      let c = (and_parts (listed t.0 t.1 && nat_lt t.0 lo && nat_lt 0 n) room b).0 in
      let d = and_parts (listed t.0 t.1) (nat_lt t.0 lo) (and_parts (listed t.0 t.1 && nat_lt t.0 lo) (nat_lt 0 n) c).0 in
      let q = listed-point image.forks p.at t.0 t.1 d.0 in
      let same : q.0 ≡ p = one-point image.forks q.0 p image_is.forks.2 q.1 h q.2 in
      let T : ℕ → List ℕ → Type 0 = λ x y. is_thread x y [] (line_of p.at) ≡ true in
      let slot : t.0 ≡ p.slot = sym q.3 ∙ ap (λ (z : Point). z.slot) same in
      let stack : t.1 ≡ p.stack = sym q.4 ∙ ap (λ (z : Point). z.stack) same in
      let above = lt-true t.0 lo d.1 in
      (subst (λ y. T p.slot y) stack (subst (λ x. T x t.1) slot t.2), omega (arith, above, slot))

  -- ---- the first condition

  shape-holds : AllHold (shape image cert)
  shape-holds =
      let lines = length cert.lines == length image.code in
      let slots = length cert.slot_bounds == length image.slots in (
        and-two (lines && slots) (is_thread 0 [] [] (line_of (start_of image 0)))
            (and-two lines slots (eq-eqb (length cert.lines) (length image.code) sound.size) (eq-eqb (length cert.slot_bounds) (length image.slots) sound.slots_size))
            sound.start,
        holds-each Holding (λ place. shape_demand 1 place (place_is_shaped image cert place)) (code_places image) (λ place h. place-shaped place h),
      )
    where
      place-shaped : (place : ℕ) → IsAmong place (code_places image) → place_is_shaped image cert place ≡ true
      place-shaped place h =
          let P = list_all (pause_is_shaped image cert) (points_at image.pauses place) in
          let F = list_all (fork_is_shaped image cert) (points_at image.forks place) in
          and-two (P && F) (line_is_shaped image cert place (line_of place))
          (and-two P F
          (passes-each (pause_is_shaped image cert) (points_at image.pauses place)
          (λ p k. let a = among-picked (λ (x : Point). x.at == place) image.pauses p k in
          and-two (is_pause_word (instr_at image p.at)) (is_thread p.slot p.stack [] (line_of p.at)) (ap is_pause_word (sound.pause p a.0).0) (pause-kind p a.0)))
          (passes-each (fork_is_shaped image cert) (points_at image.forks place)
          (λ p k. let a = among-picked (λ (x : Point). x.at == place) image.forks p k in
          and-two (is_fork_word (instr_at image p.at)) (is_thread p.slot p.stack [] (line_of p.at)) (ap is_fork_word (sound.fork p a.0).2) (fork-kind p a.0).0)))
          (shaped-at place h)

  edges-hold : AllHold (edges image cert costs)
  edges-hold =
      all-flat-in Holding (λ place. line_edges image cert costs place (line_of place)) (code_places image)
      (λ place h.
      let E : Line → Type 0 = λ l. AllHold (line_edges image cert costs place l) in
      ⊎_elim (λ g. g.edged) (λ b. subst E (sym b) tt) (covered-at place h))

  -- ---- greatest numbers

  by-cases : (P : Type 0) (p : ℕ) → (GoodAt p → P) → (line_of p ≡ Bare → P) → P
  by-cases P p f g =
      let size = sound.size in
      ⊎_elim (λ h. ⊎_elim f g (sound.covered p h)) (λ h. g (get_or_past cert.lines p Bare (omega (arith, size, h)))) (cases_lt p (length image.code))

  pub steps : (p s : ℕ) (a : List ℕ) → IsOpen image cert costs p s a → IsStepWith image cert costs find (instr_at image p) p s a
  steps p s a o = by-cases (IsStepWith image cert costs find (instr_at image p) p s a) p (λ g. g.great s a o) (λ b. absurd (false≢true (sym (ap (is_thread s a []) b) ∙ o.0)))

  pub greatest : IsGreatest image cert costs
  greatest = record {
    place = λ p s a o. great-of image cert costs find (instr_at image p) p s a (steps p s a o);
    condition = λ p c plain. by-cases (IsStraightCondition image cert costs p) p (λ g. g.straight c plain) (λ b. absurd (false≢true (sym (ap is_cond b) ∙ c)));
    slot = sound.slot
        (λ p k lo n e. let f = fork-kind p k in let l = f.1 in let x : (sound.fork p k).0 ≡ lo = same-first (sound.fork p k).0 (sound.fork p k).1 lo n (sym (sound.fork p k).2 ∙ e) in omega (arith, l, x));
    bound = sound.bound;
  }
    where
      same-first : (a b c d : ℕ) → Some (instr.Fork a b) ≡ Some (instr.Fork c d) → a ≡ c
      same-first a b c d e = cc e

  -- ---- acceptance

  cert-is : IsCert cert
  cert-is = record {
    lines = all-by-index IsShaped cert.lines Bare (λ i h. by-cases (IsShaped (line_of i)) i (λ g. g.sized) (λ b. subst IsShaped (sym b) tt));
    weights = sound.weights;
  }

  pub accepted : IsCosts costs → IsAcceptedFor image cert costs
  accepted priced =
      let s = shape image cert in
      let a = apart image in
      let e = edges image cert costs in
      let p = pauses image cert costs in
      let f = forks image cert costs in
      let r = resuming image cert costs in
      let b = bounded image cert costs in
      let rests = rests-covered image cert costs greatest cert-is shape-holds in
      let begins = beginnings-covered image cert costs greatest in
      let h1 = all-append Holding s a shape-holds sound.apart in
      let h2 = all-append Holding (s ++ a) e h1 edges-hold in
      let h3 = all-append Holding (s ++ a ++ e) p h2 (all-left Holding p f rests) in
      let h4 = all-append Holding (s ++ a ++ e ++ p) f h3 (all-right Holding p f rests) in
      let h5 = all-append Holding (s ++ a ++ e ++ p ++ f) r h4 (all-left Holding r b begins) in
      record { image_is = image_is; cert_is = cert-is; priced = priced; hold = all-append Holding (s ++ a ++ e ++ p ++ f ++ r) b h5 (all-right Holding r b begins) }
