-- Within the limits of the language all counts of a flow's program are within what a tick may cost at most.
use Rattle.std.proofs.Common.{◌≡◌, ◌≤◌, ◌<◌, ◌+◌, ◌-◌, ◌*◌, ◌==◌, max, ℕ, zero, suc, Bool, true, false, if◌then◌else◌, List, [], ◌∷◌, length, mul-le-mul_right, mul-le-mul_left, slice_get, slice_index_or, Some, refl, sym, ap, ◌∙◌, subst, inl, inr, ⊎_elim, arith}
use Rattle.std.specs.List.{AllByRecursion}
use Rattle.std.proofs.lemmas.Bool.{cases_lt}
use Rattle.mb_isa.specs.Costs.{IsCosts, cost_of}
use Rattle.mb_isa.specs.declared.Class.TheVariants as class
use Rattle.mb_isa.proofs.CostRange.{cost_of-range}
use Rattle.mb_isa.specs.Tick.{base_of}
use Rattle.pt_image.specs.declared.Point.{Point}
use Rattle.pt_image.specs.declared.Parts.{Parts}
use Rattle.pc_lower.specs.Flow.{Node, Flow, flows_of, is_weak}
use Rattle.pc_lower.specs.Residuals.{body_at}
use Rattle.pc_lower.specs.Slots.{AreChildren}
use Rattle.pc_lower.specs.Laid.{Placing}
use Rattle.pc_lower.specs.Words.{Writing, HasSteps, HasTest}
use Rattle.pc_lower.specs.Image.{IsImageOf}
use Rattle.pc_lower.specs.StepCounts.{Sizes, total_of}
use Rattle.pc_lower.specs.Bounds.{span}
use Rattle.pc_lower.specs.Limits.{started_by, sum_below, without_threads, passage, IsWithinLimits}
use Rattle.pc_lower.specs.Numbering.{slots_of, function_of, parent_of, first_started}
use Rattle.pc_lower.specs.Layable.{forks_of, numbers_in, CanBeLaid}
use Rattle.pc_lower.proofs.Slots.{same-of}
use Rattle.tk_paths.specs.Shape.{children_at}
use Rattle.tk_paths.proofs.Lists.{IsAmong, among-range}
use Rattle.tk_paths.specs.Codes.{Code, IsLaidIn}
use Rattle.tk_paths.specs.Programs.{Section, OfThread, OfRoutine, OfCondition, Unused, Program, IsProgram}
use Rattle.tk_paths.specs.Counts.{total, way_most, starts_most_from, starts_most, section_most, greatest_most, condition_most, tests_most, waited_most, place_most, slots_most_from, slots_most, AreSmall}
use Rattle.tk_paths.proofs.Sections.{all-in}
use Rattle.pc_emit.specs.Fits.{placed, AreSizes}
use Rattle.pc_emit.specs.Eots.{ListsAll}
use Rattle.pc_emit.specs.Sections.{thread_code, numbers_of, sections_of, program_of}
use Rattle.pc_emit.proofs.Spans.{small-code}
use Rattle.pc_emit.proofs.Shares.{starts-slots, slot-own, worth, total-runs, first-most, started-most, slot-most}
use Rattle.pc_emit.proofs.Forked.{owner, instant-forks, Starts, laid-fork}
use Rattle.pc_emit.proofs.Called.{turning}
use Rattle.pc_emit.proofs.Sectioned.{IsFound, sections-found}

-- ---- sums

total-times : (k : ℕ) (p : ℕ → ℕ) (xs : List ℕ) → total_of (λ g. k * p g) xs ≡ k * total_of p xs
total-times k p [] = omega arith
total-times k p (x ∷ xs) = let h = total-times k p xs in omega (arith, h)

sum-times : (started : ℕ → List ℕ) (k : ℕ) (p : ℕ → ℕ) (n : ℕ) → sum_below started (λ g. k * p g) n ≡ k * sum_below started p n
sum-times started k p zero = omega arith
sum-times started k p (suc n) = let h = sum-times started k p n in let t = total-times k p (started n) in omega (arith, h, t)

sum-same : (started : ℕ → List ℕ) (k n : ℕ) → sum_below started (λ g. k) n ≡ k * sum_below started (λ g. 1) n
sum-same started k n = ap (λ x. x) (by n) ∙ sum-times started k (λ g. 1) n
  where
    totals : (xs : List ℕ) → total_of (λ g. k) xs ≡ total_of (λ g. k * 1) xs
    totals [] = refl
    totals (x ∷ xs) = let h = totals xs in omega (arith, h)

    by : (n : ℕ) → sum_below started (λ g. k) n ≡ sum_below started (λ g. k * 1) n
    by zero = refl
    by (suc n) = let h = by n in let t = totals (started n) in omega (arith, h, t)

product : (a b c d : ℕ) → a ≤ b → c ≤ d → a * c ≤ b * d
product a b c d h k = let x = mul-le-mul_right c h in let y = mul-le-mul_left b k in omega (arith, x, y)

-- sums over children, of numbers that are the same for them
total-agree : (W S parent : ℕ → ℕ) (s : ℕ) → ((c : ℕ) → s < c → W c ≡ S c) → (n c : ℕ) → AreChildren parent s c n → total W c n ≡ total S c n
total-agree W S parent s same zero c h = refl
total-agree W S parent s same (suc n) c h =
    let a = same c h.0.1 in
    let b = total-agree W S parent s same n (c + 1) h.1 in
    omega (arith, a, b)

among-index : {X : Type 0} (xs : List X) (x : X) → IsAmong x xs → (i : ℕ) × (i < length xs) × (slice_get xs i ≡ Some x)
among-index [] x h = absurd h
among-index (y ∷ xs) x h = ⊎_elim (λ e. (0, omega arith, ap Some e)) (λ r. let k = among-index xs x r in let l = k.1 in (suc (k.0), omega (arith, l), k.2)) h

past-end : (xs : List ℕ) (i : ℕ) → length xs ≤ i → slice_index_or xs i 0 ≡ 0
past-end [] i h = refl
past-end (x ∷ xs) zero h = absurd (omega (arith, h))
past-end (x ∷ xs) (suc i) h = past-end xs i (omega (arith, h))

get-there : {X : Type 0} (xs : List X) (i : ℕ) → i < length xs → (x : X) × (slice_get xs i ≡ Some x)
get-there [] i h = absurd (omega (arith, h))
get-there (x ∷ xs) zero h = (x, refl)
get-there (x ∷ xs) (suc i) h = get-there xs i (omega (arith, h))

waited-less : (image : Parts) (W : ℕ → ℕ) (s B : ℕ) (points : List Point) → ((p : Point) → IsAmong p points → p.slot ≡ s → total W ((children_at image p.at).0) ((children_at image p.at).1) ≤ B) → waited_most image W s points ≤ B
waited-less image W s B [] h = omega arith
waited-less image W s B (p ∷ points) h =
    let r = waited-less image W s B points (λ q k. h q (inr k)) in
    by (p.slot == s) refl r
  where
    by : (t : Bool) → (p.slot == s) ≡ t → waited_most image W s points ≤ B → max (if t then total W ((children_at image p.at).0) ((children_at image p.at).1) else 0) (waited_most image W s points) ≤ B
    by true e r = let e' : s ≡ p.slot = same-of p.slot s e in let m = h p (inl refl) (sym e') in omega (arith, r, m)
    by false e r = omega (arith, r)

module _ (f : Flow) (writing : Writing) (sizes : Sizes) (placing : Placing) (image : Parts) (costs : List ℕ) (can : CanBeLaid f (placed f writing placing)) (sized : AreSizes f writing sizes)
    (small : IsWithinLimits image f writing sizes) (whole : IsImageOf (parent_of f) image costs f writing sizes (placed f writing placing)) (lists : ListsAll f image) (many : length image.slots ≡ length (slots_of f))
    (ok : IsProgram image (program_of writing f)) where
  abbrev program : Program
  program = program_of writing f

  abbrev body : ℕ → Node
  body g = body_at f.bodies g

  abbrev started : ℕ → List ℕ
  started g = started_by f.bodies g

  abbrev L : ℕ
  L = length (slots_of f)

  abbrev T : ℕ → ℕ
  T = starts_most image program.threads

  abbrev S : ℕ → ℕ
  S = slots_most image program

  found : AllByRecursion (IsFound f writing sizes placing image can sized small.passages sized.words sized.test_words) (sections_of writing f)
  found = sections-found f writing sizes placing image can sized small.passages sized.words sized.test_words small.conditions ok.laid

  -- what stands for the slots, where it is a sum over slots
  abbrev worths : (W : ℕ → ℕ) → ℕ → ℕ
  worths W = worth f can.order can.main can.once can.there W

  -- ---- what slots start with

  abbrev IsThread : ℕ → Code → Type 0
  IsThread s code = IsFound f writing sizes placing image can sized small.passages sized.words sized.test_words (OfThread s code)

  thread-found : (s : ℕ) (code : Code) → slice_get program.threads s ≡ Some code → IsThread s code
  thread-found s code e = all-in (IsFound f writing sizes placing image can sized small.passages sized.words sized.test_words) (sections_of writing f) (OfThread s code) found (ok.thread s code e).1

  way-less : (W : ℕ → ℕ) (s : ℕ) (code : Code) → IsThread s code → ((c : ℕ) → s < c → W c ≡ T c) →
      way_most image W code ≤ 255 * span (without_threads sizes) (body (function_of f s)) + total_of (worths T) (started (function_of f s))
  way-less W s code h same =
      let g = function_of f s in
      let low = can.there s h.2 in
      let child = first_started f s in
      let made = thread_code writing (numbers_of writing f) h.1 (body g) child h.0 in
      let laid = subst (λ x. IsLaidIn image s [] x) h.3 h.5 in
      let a = small-code image writing (without_threads sizes) (numbers_of writing f) h.1 sized.words sized.test_words W s (body g) child h.0 [] (turning can.shape.ends (body g) (can.shape.lasts g low)) h.4 laid in
      let e : way_most image W code ≡ way_most image W made = ap (way_most image W) h.3 in
      let slots = starts-slots f can.order can.main can.once can.there s h.2 in
      let b : total W child (length (started g)) ≡ total T child (length (started g)) = total-agree W T (parent_of f) s same (length (started g)) child slots.children in
      let c = total-runs f can.order can.main can.once can.there T (started g) child slots.within slots.run in
      omega (arith, a, e, b, c)

  -- what a thread has of its own
  abbrev own : ℕ → ℕ
  own g = 255 * passage sizes f.bodies g

  abbrev Share : ℕ → Type 0
  Share c = T c ≤ own (function_of f c) + total_of (worths T) (started (function_of f c))

  starts-share : (codes : List Code) (s : ℕ) → ((i : ℕ) (code : Code) → slice_get codes i ≡ Some code → slice_get program.threads (s + i) ≡ Some code) → ((i : ℕ) → slice_index_or (starts_most_from image s codes) i 0 ≡ T (s + i)) →
      (i : ℕ) → i < length codes → Share (s + i)
  starts-share [] s there same i h = absurd (omega (arith, h))
  starts-share (code ∷ codes) s there same zero h =
      let W : ℕ → ℕ = λ c. slice_index_or (starts_most_from image (s + 1) codes) (c - (s + 1)) 0 in
      let z : s ≡ s + 0 = omega arith in
      let at : slice_get program.threads s ≡ Some code = ap (slice_get program.threads) z ∙ there 0 code refl in
      let later : (c : ℕ) → s < c → W c ≡ T c = λ c l. same (suc (c - (s + 1))) ∙ (let d : s + suc (c - (s + 1)) ≡ c = omega (arith, l) in ap T d) in
      let a = way-less W s code (thread-found s code at) later in
      let b : way_most image W code + 255 ≡ T s = same 0 ∙ ap T (sym z) in
      subst Share z (omega (arith, a, b))
  starts-share (code ∷ codes) s there same (suc i) h =
      let d : (k : ℕ) → s + suc k ≡ s + 1 + k = λ k. omega arith in
      subst Share (sym (d i))
      (starts-share codes (s + 1) (λ k c e. ap (slice_get program.threads) (sym (d k)) ∙ there (suc k) c e) (λ k. same (suc k) ∙ ap T (d k)) i (omega (arith, h)))

  long : length program.threads ≡ L
  long = ok.slots ∙ many

  shares : (c : ℕ) → c < L → Share c
  shares c less =
      let d : (k : ℕ) → k ≡ 0 + k = λ k. omega arith in
      subst Share (sym (d c)) (starts-share program.threads 0 (λ i code e. ap (slice_get program.threads) (sym (d i)) ∙ e) (λ i. ap T (d i)) c (omega (arith, less, long)))

  all-own : own f.main + sum_below started own (length f.bodies) ≤ 510000000
  all-own = let t = sum-times started 255 (passage sizes f.bodies) (length f.bodies) in let p = small.passages in omega (arith, t, p)

  -- ---- what a place comes to, and a condition

  abbrev most_place : ℕ
  most_place = 10200000255

  section-small : (x : Section) → IsFound f writing sizes placing image can sized small.passages sized.words sized.test_words x → section_most image program.threads x ≤ most_place
  section-small (OfThread s code) h =
      let a = way-less T s code h (λ c l. refl) in
      let b = started-most f can.order can.main can.once can.there T own shares small.once s h.2 in
      let c = all-own in
      let p = slot-own f can.order can.main can.once can.there (passage sizes f.bodies) 2000000 small.passages s h.2 in
      let w : way_most image T code ≤ 1020000000 = omega (arith, a, b, c, p) in
      omega (arith, w)
  section-small (OfRoutine r) h = omega (arith, h)
  section-small (OfCondition p n q) h = omega (arith, h)
  section-small (Unused n) h = omega arith

  test-small : (x : Section) → IsFound f writing sizes placing image can sized small.passages sized.words sized.test_words x → condition_most image x ≤ 15300510
  test-small (OfThread s code) h = omega arith
  test-small (OfRoutine r) h = omega arith
  test-small (OfCondition p n q) h = omega (arith, h)
  test-small (Unused n) h = omega arith

  greatest-less : (xs : List Section) → AllByRecursion (IsFound f writing sizes placing image can sized small.passages sized.words sized.test_words) xs → greatest_most image program.threads xs ≤ most_place
  greatest-less [] h = omega arith
  greatest-less (x ∷ xs) h = let a = section-small x h.0 in let b = greatest-less xs h.1 in omega (arith, a, b)

  tests-less : (xs : List Section) → AllByRecursion (IsFound f writing sizes placing image can sized small.passages sized.words sized.test_words) xs → tests_most image xs ≤ 15300510
  tests-less [] h = omega arith
  tests-less (x ∷ xs) h = let a = test-small x h.0 in let b = tests-less xs h.1 in omega (arith, a, b)

  -- ---- slots

  -- what is listed as a fork of a slot starts slots of its own
  point-starts : (p : Point) → IsAmong p image.forks → (c : ℕ) × (c < L) × Starts (parent_of f) image (flows_of f.bodies) (is_weak f.aborts) (HasSteps image writing) (HasTest image writing) (placed f writing placing) c p (started (function_of f c))
  point-starts p h =
      let i = among-index image.forks p h in
      let n = length (numbers_in forks_of f.bodies) in
      let less : i.0 < n = (let a = i.1 in let b = lists.forks in omega (arith, a, b)) in
      let listed : IsAmong i.0 (numbers_in forks_of f.bodies) = subst (IsAmong i.0) (sym can.forks) (among-range 0 n i.0 (omega arith) (omega (arith, less))) in
      let o = owner f.bodies i.0 listed in
      ⊎_elim (λ (t : (c : ℕ) × (c < L) × (function_of f c ≡ o.0)).
      let k = whole.compiled.threads t.0 o.0 (let a = t.1 in omega (arith, a, many)) t.2 in
      let r = laid-fork (parent_of f) image (flows_of f.bodies) (is_weak f.aborts) (HasSteps image writing) (HasTest image writing) (placed f writing placing) t.0 i.0 p i.2 (body o.0) [] _ k.stop 0 0 k.room k.laid o.2 in
      (t.0, t.1, subst (λ g. Starts (parent_of f) image (flows_of f.bodies) (is_weak f.aborts) (HasSteps image writing) (HasTest image writing) (placed f writing placing) t.0 p (started g)) (sym t.2) r))
      (λ called. absurd (instant-forks (body o.0) i.0 (can.called o.0 called).instant o.2)) (can.each o.0 o.1)

  abbrev most_slot : ℕ
  most_slot = 8 * 15300510 + most_place

  abbrev SlotShare : ℕ → Type 0
  SlotShare c = S c ≤ most_slot + total_of (worths S) (started (function_of f c))

  waits-share : (W : ℕ → ℕ) (s : ℕ) → ((c : ℕ) → s < c → W c ≡ S c) → waited_most image W s image.forks ≤ total_of (worths S) (started (function_of f s))
  waits-share W s same =
      waited-less image W s (total_of (worths S) (started (function_of f s))) image.forks
      (λ p h e.
      let t = point-starts p h in
      let r = t.2 in
      let c : t.0 ≡ s = sym r.slot ∙ e in
      let lo = r.lo in
      let n = length r.threads in
      let k = r.children in
      let fits : lo + n ≤ L = (let a = k.1 in omega (arith, a, many)) in
      let a : total W ((children_at image p.at).0) ((children_at image p.at).1) ≡ total W lo n = ap (λ (x : ℕ × ℕ). total W (x.0) (x.1)) r.starts in
      let b : total W lo n ≡ total S lo n = total-agree W S (parent_of f) s same n lo (subst (λ x. AreChildren (parent_of f) x lo n) c k.2) in
      let d = total-runs f can.order can.main can.once can.there S r.threads lo fits k.3 in
      let m = r.some (worths S) in
      let g : total_of (worths S) (started (function_of f t.0)) ≡ total_of (worths S) (started (function_of f s)) = ap (λ x. total_of (worths S) (started (function_of f x))) c in
      omega (arith, a, b, d, m, g))

  slots-share : (n s : ℕ) → ((i : ℕ) → slice_index_or (slots_most_from image program s n) i 0 ≡ S (s + i)) → (i : ℕ) → i < n → SlotShare (s + i)
  slots-share zero s same i h = absurd (omega (arith, h))
  slots-share (suc n) s same zero h =
      let W : ℕ → ℕ = λ c. slice_index_or (slots_most_from image program (s + 1) n) (c - (s + 1)) 0 in
      let z : s ≡ s + 0 = omega arith in
      let later : (c : ℕ) → s < c → W c ≡ S c = λ c l. same (suc (c - (s + 1))) ∙ (let d : s + suc (c - (s + 1)) ≡ c = omega (arith, l) in ap S d) in
      let a = waits-share W s later in
      let b : 8 * tests_most image program.sections + place_most image program + waited_most image W s image.forks ≡ S s = same 0 ∙ ap S (sym z) in
      let c = greatest-less program.sections found in
      let d = tests-less program.sections found in
      subst SlotShare z (omega (arith, a, b, c, d))
  slots-share (suc n) s same (suc i) h =
      let d : (k : ℕ) → s + suc k ≡ s + 1 + k = λ k. omega arith in
      subst SlotShare (sym (d i)) (slots-share n (s + 1) (λ k. same (suc k) ∙ ap S (d k)) i (omega (arith, h)))

  slot-shares : (c : ℕ) → c < L → SlotShare c
  slot-shares c less =
      let d : (k : ℕ) → k ≡ 0 + k = λ k. omega arith in
      subst SlotShare (sym (d c)) (slots-share (length image.slots) 0 (λ i. ap S (d i)) c (omega (arith, less, many)))

  slots-long : (n s : ℕ) → length (slots_most_from image program s n) ≡ n
  slots-long zero s = refl
  slots-long (suc n) s = ap suc (slots-long n (s + 1))

  all-slots : most_slot + sum_below started (λ g. most_slot) (length f.bodies) ≤ 64 * most_slot
  all-slots = let t = sum-same started most_slot (length f.bodies) in let p = small.few in omega (arith, t, p)

  slot-small : (c : ℕ) → S c ≤ 65 * most_slot
  slot-small c =
      ⊎_elim (λ (l : c < L). let a = slot-most f can.order can.main can.once can.there S (λ g. most_slot) slot-shares small.once c l in let b = all-slots in omega (arith, a, b))
      (λ (u : L ≤ c). let n = slots-long (length image.slots) 0 in let z : S c ≡ 0 = past-end (slots_most_from image program 0 (length image.slots)) c (omega (arith, n, u, many)) in omega (arith, z)) (cases_lt c L)

  -- ---- the bound

  base-small : (priced : List ℕ) → IsCosts priced → base_of image priced ≤ 255 * 129
  base-small priced is =
      let c = cost_of priced class.Tick in
      let le : c ≤ 255 = (let h = (cost_of-range priced is class.Tick).1 in omega (arith, h)) in
      let p = small.ports in
      let n = 1 + length image.inputs + length image.outputs in
      let a : n ≤ 129 = omega (arith, p) in
      product c 255 n 129 le a

  first-start : T 0 ≤ 510000000
  first-start = let a = first-most f can.order can.main can.once can.there T own shares small.once in let b = all-own in omega (arith, a, b)

  pub are-small : AreSmall image program
  are-small = record {
    places = (let a = greatest-less program.sections found in omega (arith, a));
    slots = λ s. let a = slot-small s in omega (arith, a);
    bound = λ priced is. let a = base-small priced is in let b = first-start in let c = slot-small 0 in omega (arith, a, b, c);
  }
