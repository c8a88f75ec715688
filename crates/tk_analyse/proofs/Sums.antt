-- Where the counts of a program are small, so are all sums of its analysis.
use Rattle.std.proofs.Common.{◌≡◌, ◌≤◌, ◌<◌, ◌+◌, ◌-◌, ◌++◌, ◌==◌, ℕ, zero, suc, Bool, true, false, if◌then◌else◌, List, [], ◌∷◌, flat_map, length, slice_get, slice_index_or, Option, Some, None, refl, sym, ap, ◌∙◌, subst, inl, inr, ⊎_elim, arith}
use mathlib.Core.Path.{ap₂}
use Rattle.std.proofs.lemmas.Bool.Decides.{nat_tests}
use Rattle.std.specs.List.{AllByRecursion}
use Rattle.mb_isa.specs.declared.Class.{Class}
use Rattle.mb_isa.specs.declared.Class.TheVariants as class
use Rattle.mb_isa.specs.Costs.{IsCosts, cost_of}
use Rattle.mb_isa.proofs.CostRange.{cost_of-range}
use Rattle.pt_image.specs.declared.Point.{Point}
use Rattle.pt_image.specs.declared.Parts.{Parts}
use Rattle.pt_image.specs.Ranges.{IsImage}
use Rattle.tk_cert.specs.declared.cert.Walk.{Walk}
use Rattle.tk_cert.specs.declared.cert.CertParts.{CertParts}
use Rattle.tk_paths.specs.declared.view.Side.{Side}
use Rattle.tk_paths.specs.declared.view.Side.TheVariants.{ToPause, ToEnd}
use Rattle.tk_paths.specs.declared.view.View.TheVariants.{On, Value}
use Rattle.tk_paths.specs.Sums.{greater, or_zero, resumed_most}
use Rattle.tk_paths.specs.Shape.{children_at, children_in}
use Rattle.tk_paths.specs.Acceptance.{on_side, resumed}
use Rattle.tk_paths.specs.Walks.{most_cycles}
use Rattle.tk_paths.specs.Greatest.{best, paused, waited}
use Rattle.tk_paths.proofs.Lists.{IsAmong, all-among}
use Rattle.tk_paths.specs.Regions.{units_cost}
use Rattle.tk_paths.specs.Codes.{Code, Passed, Sequence, Either, Turns, Forever, Resting, Forking, Guarded, IsLaidIn}
use Rattle.tk_paths.specs.Numbers.{just}
use Rattle.tk_paths.specs.Programs.{Section, OfThread, OfRoutine, OfCondition, Unused, Program, IsIn, IsProgram, pair_from, ended, starts_from, starts_in, certificate}
use Rattle.tk_paths.specs.Programs as programs
use Rattle.tk_paths.specs.Counts.{Below, words_most, way_most, starts_most_from, starts_most, section_most, AreSmall}
use Rattle.tk_paths.proofs.Ranges.{AreBelow, below-none, below-some, units-most}
use Rattle.tk_paths.proofs.CodeRanges.{eight-reach, pass-way}
use Rattle.tk_paths.proofs.CountLaws.{most-of, starts-suffix, counted}
use Rattle.tk_paths.proofs.SmallNumbers.{total-alike, small-numbers}
use Rattle.tk_paths.proofs.Accepting.{fork-kind}
use Rattle.tk_paths.proofs.ProgramLaws.{sound, program-greatest}
use Rattle.tk_paths.proofs.Rooms.{small-left, small-right}
use Rattle.tk_paths.proofs.Sections.{F, SectionAt, all-in, all-at, thread-at}
use Rattle.tk_paths.proofs.SlotLaws.{get-past}
use Rattle.tk_paths.specs.Faults.{IsSmall}
use Rattle.tk_threads.specs.Rooms.{IsSmallSection, AreSmallStarts}
use Rattle.tk_numbers.specs.Routines.{IsSmallRoutine, IsShallow}
use Rattle.tk_paths.specs.Told.{pair_at, known_from, slots_from}
use Rattle.tk_paths.specs.Waits.{IsSmallWait, AreSmallWaits, AreSmallSlots}
use Rattle.tk_paths.proofs.Later.{slots_are}
use Rattle.std.proofs.lemmas.List.FromFn.{length-map-range_with_len}
use Rattle.tk_cert.specs.declared.cert.Line.{Line}
use Rattle.tk_paths.specs.declared.Section.{Section as KeptSection}
use Rattle.tk_paths.specs.Trees.{threads_in, code_of, codes_of, read_sections, program_of_sections}
use Rattle.tk_threads.specs.Sections.{lines_of}
use Rattle.tk_plans.specs.Low.{AreLow}
use Rattle.tk_plans.specs.Small.{HasSmallWaysIn}
use Rattle.tk_analyse.specs.Points.{HasSmallPoints}
use Rattle.tk_analyse.proofs.Certified.{lines-are}
use Rattle.tk_analyse.proofs.CodeRooms.{small-below, room-below, region-room, entry-small, code-small, code-ways}

all-from : (P : Section → Type 0) (xs : List Section) → ((x : Section) → IsIn x xs → P x) → AllByRecursion P xs
all-from P [] f = tt
all-from P (x ∷ xs) f = (f x (inl refl), all-from P xs (λ y k. f y (inr k)))

all-points : (P : Point → Type 0) (points : List Point) → ((p : Point) → IsAmong p points → P p) → AllByRecursion P points
all-points P [] f = tt
all-points P (p ∷ points) f = (f p (inl refl), all-points P points (λ q k. f q (inr k)))

-- what one of a slot's points gives is at most the best of them
best-given : (given : Point → Option ℕ) (s : ℕ) (points : List Point) (p : Point) → IsAmong p points → p.slot ≡ s → IsSmall (best given s points) → IsSmall (given p)
best-given given s [] p k e h = absurd k
best-given given s (q ∷ points) p k e h =
    let rest = best given s points in
    ⊎_elim
    (λ (is : q ≡ p).
    let own : (q.slot == s) ≡ true = own-slot q.slot s (ap (λ (x : Point). x.slot) is ∙ e) in
    let P : Bool → Type 0 = λ b. IsSmall (if b then greater (given q) rest else rest) in
    let Q : Point → Type 0 = λ x. IsSmall (given x) in
    subst Q is (small-left (given q) rest (subst P own h)))
    (λ later. best-given given s points p later e (either-rest (q.slot == s) h)) k
  where
    own-slot : (x y : ℕ) → x ≡ y → (x == y) ≡ true
    own-slot x y e = grind (arith, nat_tests)

    either-rest : (b : Bool) → IsSmall (if b then greater (given q) (best given s points) else best given s points) → IsSmall (best given s points)
    either-rest true h = small-right (given q) (best given s points) h
    either-rest false h = h

-- what a slot's code comes to is told from later slots
way-alike : (image : Parts) (V W : ℕ → ℕ) (s : ℕ) → ((c : ℕ) → s < c → V c ≡ W c) → (stack : List ℕ) (code : Code) → IsLaidIn image s stack code →
    way_most image V code ≡ way_most image W code
way-alike image V W s same stack (Passed r) l = refl
way-alike image V W s same stack (Sequence x y) l =
    let a = way-alike image V W s same stack x l.0 in let b = way-alike image V W s same stack y l.1 in omega (arith, a, b)
way-alike image V W s same stack (Either p n at x y) l =
    let a = way-alike image V W s same stack x l.3 in let b = way-alike image V W s same stack y l.6 in omega (arith, a, b)
way-alike image V W s same stack (Turns p n at body q) l = let a = way-alike image V W s same stack body l.3 in omega (arith, a)
way-alike image V W s same stack (Forever body q) l = let a = way-alike image V W s same stack body l.0 in omega (arith, a)
way-alike image V W s same stack (Resting p) l = refl
way-alike image V W s same stack (Forking p lo n) l = let a = total-alike V W s same n lo l.2 in omega (arith, a)
way-alike image V W s same stack (Guarded p j body) l = let a = way-alike image V W s same (stack ++ j ∷ []) body l.4 in omega (arith, a)

resumed-alike : (f g : Side → ℕ → Option ℕ) (s : ℕ) → ((side : Side) (c : ℕ) → s < c → f side c ≡ g side c) → (n c : ℕ) → s < c →
    resumed_most f c n ≡ resumed_most g c n
resumed-alike f g s same zero c h = refl
resumed-alike f g s same (suc n) c h =
    let a = resumed-alike f g s same n (c + 1) (omega (arith, h)) in
    let b : or_zero (greater (f ToPause c) (f ToEnd c)) ≡ or_zero (greater (g ToPause c) (g ToEnd c)) = ap₂ (λ x y. or_zero (greater x y)) (same ToPause c h) (same ToEnd c h) in
    omega (arith, a, b)

abbrev no_walk : Walk
no_walk = record { states = []; choices = [] }

module _ (image : Parts) (program : Program) (costs : List ℕ) (ok : IsProgram image program) (image_is : IsImage image) (priced : IsCosts costs) (little : AreSmall image program) where
  positive : (c : Class) → 1 ≤ cost_of costs c
  positive c = (cost_of-range costs priced c).0

  small : (c : Class) → cost_of costs c ≤ 255
  small c = let h = (cost_of-range costs priced c).1 in omega (arith, h)

  abbrev T : ℕ → ℕ
  T = starts_most image program.threads

  abbrev S : Side → ℕ → Option ℕ
  S = starts_in image costs program.threads

  -- ---- sections

  section-most : (x : Section) → IsIn x program.sections → section_most image program.threads x ≤ most_cycles
  section-most x k =
      let m = most-of image program costs no_walk ok image_is positive small program.sections x k in
      let p = little.places in
      omega (arith, m, p)

  section-at : (x : Section) → IsIn x program.sections → SectionAt image program costs no_walk x
  section-at x k = all-in (SectionAt image program costs no_walk) program.sections x (all-at image program costs no_walk ok positive) k

  ended-below : AreBelow 255 (ended image costs)
  ended-below (On ToPause k) = below-none 255
  ended-below (On ToEnd k) = below-some 255 (cost_of costs class.End) (small class.End)
  ended-below Value = below-none 255

  section-small : (x : Section) → IsIn x program.sections → IsSmallSection image costs S x
  section-small (OfThread s code) k =
      let n = counted image program costs no_walk ok image_is positive small in
      let b = section-most (OfThread s code) k in
      let r = eight-reach (way_most image T code) in
      code-small image costs small S T (λ side c. n.starts side c) s 8 [] code [] 255 0 (ended image costs) (omega arith) (section-at (OfThread s code) k).0
      (λ side i. below-none 0) ended-below (omega (arith, r, b))
  section-small (OfRoutine r) k =
      let b = section-most (OfRoutine r) k in
      let f = section-at (OfRoutine r) k in
      let h = f.2 in (
        region-room image costs small r 255 (just (cost_of costs class.Ret)) f.0 (omega (arith, b)) (λ view. below-some 255 (cost_of costs class.Ret) (small class.Ret)),
        omega (arith, h),
      )
  section-small (OfCondition p n q) k =
      let b = section-most (OfCondition p n q) k in
      let f = section-at (OfCondition p n q) k in
      room-below (units_cost image costs p n) (words_most p q) 255 (just (cost_of costs class.Cend)) (units-most image costs small n p q f.0) (omega (arith, b))
      (λ view. below-some 255 (cost_of costs class.Cend) (small class.Cend))
  section-small (Unused n) k = tt

  pub sections-small : AllByRecursion (IsSmallSection image costs S) program.sections
  sections-small = all-from (IsSmallSection image costs S) program.sections section-small

  pub routines-small : AllByRecursion (IsSmallRoutine image costs) program.sections
  routines-small = all-from (IsSmallRoutine image costs) program.sections (λ x k. by x (section-small x k))
    where
      by : (x : Section) → IsSmallSection image costs S x → IsSmallRoutine image costs x
      by (OfThread s code) h = tt
      by (OfRoutine r) h = (h.0).cycles
      by (OfCondition p n q) h = tt
      by (Unused n) h = tt

  pub routines-shallow : AllByRecursion IsShallow program.sections
  routines-shallow = all-from IsShallow program.sections (λ x k. by x (section-small x k))
    where
      by : (x : Section) → IsSmallSection image costs S x → IsShallow x
      by (OfThread s code) h = tt
      by (OfRoutine r) h = h.1
      by (OfCondition p n q) h = tt
      by (Unused n) h = tt

  -- ---- what slots start with

  starts-told : (codes : List Code) (s : ℕ) → ((i : ℕ) → slice_index_or (starts_most_from image s codes) i 0 ≡ T (s + i)) →
      ((i : ℕ) (code : Code) → slice_get codes i ≡ Some code → IsLaidIn image (s + i) [] code × (way_most image T code + 255 ≤ most_cycles)) →
      AreSmallStarts image costs s codes
  unfolding AreSmallStarts
  starts-told [] s same fit = tt
  starts-told (code ∷ rest) s same fit =
      let W : ℕ → ℕ = λ c. slice_index_or (starts_most_from image (s + 1) rest) (c - (s + 1)) 0 in
      let later : (c : ℕ) → s < c → W c ≡ T c = λ c l. same (suc (c - (s + 1))) ∙ (let d : s + suc (c - (s + 1)) ≡ c = omega (arith, l) in ap T d) in
      let z : s + 0 ≡ s = omega arith in
      let here = fit 0 code refl in
      let L : ℕ → Type 0 = λ x. IsLaidIn image x [] code in
      let laid : IsLaidIn image s [] code = subst L z here.0 in
      let alike = way-alike image W T s later [] code laid in
      let f : Side → ℕ → Option ℕ = pair_from (s + 1) (starts_from image costs (s + 1) rest) in
      let known : (side : Side) (c : ℕ) → Below (W c) (f side c) = λ side c.
      starts-suffix image program costs no_walk ok image_is positive small rest (s + 1) (λ i other e. (s + suc i, (fit (suc i) other e).0)) (c - (s + 1)) side in
      let p = pass-way image costs small f W known code in
      let b = here.1 in
      let d : (i : ℕ) → s + suc i ≡ s + 1 + i = λ i. omega arith in (
        starts-told rest (s + 1) (λ i. same (suc i) ∙ ap T (d i))
            (λ i other e. let g = fit (suc i) other e in let K : ℕ → Type 0 = λ x. IsLaidIn image x [] other in (subst K (d i) g.0, g.1)),
        entry-small image costs small f W known s [] code [] 255 0 (ended image costs) laid (λ side k. below-none 0) ended-below (omega (arith, p, b, alike)),
      )

  pub starts-small : AreSmallStarts image costs 0 program.threads
  starts-small =
      let z : (i : ℕ) → i ≡ 0 + i = λ i. omega arith in
      starts-told program.threads 0 (λ i. ap T (z i))
      (λ i code e.
      let L : ℕ → Type 0 = λ x. IsLaidIn image x [] code in
      let b = section-most (OfThread i code) (ok.thread i code e).1 in
      (subst L (z i) (thread-at image program costs no_walk ok positive i code e).0, omega (arith, b)))

  -- ---- slots that are resumed

  abbrev cert : CertParts
  cert = certificate image costs program no_walk

  abbrev R : Side → ℕ → Option ℕ
  R = resumed image cert costs

  waits-small : (known : List (Option ℕ × Option ℕ)) (s : ℕ) → ((side : Side) (c : ℕ) → s < c → pair_at known side c ≡ R side c) → AreSmallWaits image known s
  waits-small known s same =
      let numbers = small-numbers image program costs no_walk ok image_is positive small priced little in
      all-points (λ (p : Point). p.slot ≡ s → IsSmallWait image known p) image.forks
      (λ p k at.
      let fork = (sound image program costs no_walk ok image_is positive).fork p k in
      let above = (fork-kind image cert costs (F image program costs no_walk) image_is (sound image program costs no_walk ok image_is positive) p k).1 in
      let kids : children_at image p.at ≡ (fork.0, fork.1) = ap children_in fork.2 in
      let low : s < (children_at image p.at).0 = (let e : (children_at image p.at).0 ≡ fork.0 = ap (λ (x : ℕ × ℕ). x.0) kids in omega (arith, above, at, e)) in
      let a = resumed-alike (pair_at known) R s same ((children_at image p.at).1) ((children_at image p.at).0) low in
      let b = all-among (λ (p : Point). resumed_most R ((children_at image p.at).0) ((children_at image p.at).1) ≤ most_cycles) image.forks p numbers.waits k in
      omega (arith, a, b))

  slots-told : (n s : ℕ) → ((side : Side) (i : ℕ) → on_side side (slice_get (slots_from image costs (programs.lines image costs program) s n) i) ≡ R side (s + i)) →
      AreSmallSlots image costs (programs.lines image costs program) s n
  unfolding AreSmallSlots slots_from
  slots-told zero s same = tt
  slots-told (suc n) s same =
      let numbers = small-numbers image program costs no_walk ok image_is positive small priced little in
      let later : List (Option ℕ × Option ℕ) = slots_from image costs (programs.lines image costs program) (s + 1) n in
      let d : (i : ℕ) → s + suc i ≡ s + 1 + i = λ i. omega arith in
      let known : (side : Side) (c : ℕ) → s < c → pair_at (known_from s later) side c ≡ R side c = λ side c l.
      ap (on_side side) (get-past (s + 1) c (None, None) later (omega (arith, l))) ∙ same side (suc (c - (s + 1)))
      ∙ (let e : s + suc (c - (s + 1)) ≡ c = omega (arith, l) in ap (R side) e) in
      let one : (side : Side) → IsSmall (R side (s + 0)) = λ side. small-below most_cycles (R side (s + 0)) (omega arith) (numbers.slots (s + 0) side) in (
        slots-told n (s + 1) (λ side i. same side (suc i) ∙ ap (R side) (d i)),
        waits-small (known_from s later) s known,
        subst IsSmall (sym (same ToPause 0)) (one ToPause),
        subst IsSmall (sym (same ToEnd 0)) (one ToEnd),
      )

  pub slots-small : AreSmallSlots image costs (programs.lines image costs program) 0 (length image.slots)
  slots-small =
      let z : (i : ℕ) → i ≡ 0 + i = λ i. omega arith in
      slots-told (length image.slots) 0
      (λ side i. ap (λ (l : List (Option ℕ × Option ℕ)). on_side side (slice_get l i)) (slots_are image costs program 0 (length image.slots)) ∙ ap (R side) (z i))

  pub bound-small : (certificate image costs program no_walk).bound ≤ most_cycles
  bound-small = (small-numbers image program costs no_walk ok image_is positive small priced little).bound

  -- ---- what the walk is told from

  pub lines-low : AreLow (programs.lines image costs program)
  lines-low = (small-numbers image program costs no_walk ok image_is positive small priced little).lines

  resumed-small : (s : ℕ) (side : Side) → IsSmall (greater (best (paused image cert costs side) s image.pauses) (best (waited image cert costs side) s image.forks))
  resumed-small s side =
      let numbers = small-numbers image program costs no_walk ok image_is positive small priced little in
      let is = (program-greatest image program costs no_walk ok image_is positive).slot s side in
      subst IsSmall is (small-below most_cycles (R side s) (omega arith) (numbers.slots s side))

  pub points-small : HasSmallPoints image (programs.lines image costs program) (programs.slot_bounds image costs program) costs
  points-small =
      let numbers = small-numbers image program costs no_walk ok image_is positive small priced little in record {
        pauses = λ side. all-points (λ (p : Point). IsSmall (paused image cert costs side p)) image.pauses
            (λ p k. best-given (paused image cert costs side) p.slot image.pauses p k refl
            (small-left (best (paused image cert costs side) p.slot image.pauses) (best (waited image cert costs side) p.slot image.forks) (resumed-small p.slot side)));
        forks = λ side. all-points (λ (p : Point). IsSmall (waited image cert costs side p)) image.forks
            (λ p k. best-given (waited image cert costs side) p.slot image.forks p k refl
            (small-right (best (paused image cert costs side) p.slot image.pauses) (best (waited image cert costs side) p.slot image.forks) (resumed-small p.slot side)));
        waits = numbers.waits;
      }

  pub ways-small : AllByRecursion (HasSmallWaysIn image costs) program.sections
  ways-small = all-from (HasSmallWaysIn image costs) program.sections (λ x k. by x (section-small x k))
    where
      by : (x : Section) → IsSmallSection image costs S x → HasSmallWaysIn image costs x
      by (OfThread s code) h = code-ways image costs S [] code (ended image costs) h
      by (OfRoutine r) h = (h.0).cycles
      by (OfCondition p n q) h = tt
      by (Unused n) h = tt

-- ---- as they were handed on

-- there are at most as many threads as an image has slots
pub threads_few : (image : Parts) (sections : List Section) → IsImage image → length (codes_of sections) ≡ length image.slots → threads_in sections ≤ 64
threads_few image sections i e =
    let a = length-map-range_with_len (λ s. code_of s sections) 0 (threads_in sections) in
    let b = i.slots.1 in
    omega (arith, a, b, e)

module _ (image : Parts) (costs : List ℕ) (kept seen : List KeptSection) (starts shown : List (Option ℕ × Option ℕ)) (ml il sl : List Line) (same : seen ≡ kept) (begun : starts ≡ starts_from image costs 0 (codes_of (read_sections [] seen))) (handed : shown ≡ starts) where
  pub starts_known : shown ≡ starts_from image costs 0 (codes_of (read_sections [] kept))
  starts_known = handed ∙ begun ∙ ap (λ (z : List KeptSection). starts_from image costs 0 (codes_of (read_sections [] z))) same

  pub lines_known : ml ≡ flat_map (lines_of image costs (pair_from 0 shown)) (read_sections [] seen) → il ≡ ml → sl ≡ il →
      sl ≡ programs.lines image costs (program_of_sections (read_sections [] kept))
  lines_known m i s =
      lines-are image costs (program_of_sections (read_sections [] kept)) shown sl starts_known
      (s ∙ i ∙ m ∙ ap (λ (z : List KeptSection). flat_map (lines_of image costs (pair_from 0 shown)) (read_sections [] z)) same)

  pub bounds_known : (bounds bb : List (Option ℕ × Option ℕ)) → sl ≡ programs.lines image costs (program_of_sections (read_sections [] kept)) →
      bounds ≡ slots_from image costs sl 0 (length image.slots) → bb ≡ bounds →
      bb ≡ programs.slot_bounds image costs (program_of_sections (read_sections [] kept))
  bounds_known bounds bb lines told b =
      b ∙ told ∙ ap (λ (x : List Line). slots_from image costs x 0 (length image.slots)) lines
      ∙ slots_are image costs (program_of_sections (read_sections [] kept)) 0 (length image.slots)
