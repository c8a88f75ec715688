-- Where the counts of a program are small no number of its certificate is greater than what a tick may cost at most.
use Rattle.std.proofs.Common.{◌≡◌, ◌≤◌, ◌<◌, ◌+◌, ◌-◌, ◌*◌, ◌==◌, ℕ, zero, suc, Bool, true, if◌then◌else◌, List, [], ◌∷◌, length, slice_get, slice_index_or, Some, refl, sym, ap, ◌∙◌, inl, inr, ⊎_elim, arith}
use Rattle.std.proofs.lemmas.Bool.Decides.{nat_tests}
use Rattle.std.specs.List.{AllByRecursion}
use Rattle.mb_isa.specs.declared.Class.{Class}
use Rattle.mb_isa.specs.Costs.{IsCosts, cost_of}
use Rattle.pt_image.specs.declared.Point.{Point}
use Rattle.pt_image.specs.declared.Parts.{Parts}
use Rattle.pt_image.specs.Ranges.{IsPoint, IsImage}
use Rattle.tk_cert.specs.declared.cert.Walk.{Walk}
use Rattle.tk_paths.specs.Sums.{resumed_most}
use Rattle.tk_paths.specs.Shape.{children_at, children_in}
use Rattle.tk_paths.specs.Acceptance.{resumed}
use Rattle.tk_paths.specs.Walks.{most_cycles}
use Rattle.tk_paths.proofs.Lists.{IsAmong, all-among}
use Rattle.tk_paths.specs.Codes.{Code, Passed, Sequence, Either, Turns, Forever, Resting, Forking, Guarded}
use Rattle.tk_paths.specs.Programs.{OfThread, Program, IsProgram, starts_in, certificate}
use Rattle.tk_paths.specs.Counts.{total, way_most, starts_most, waited_most, place_most, tests_most, slots_most_from, slots_most, AreSmall, EachFork, HasSmallNumbers}
use Rattle.tk_paths.proofs.Ranges.{below-wider, all-wider, light-wider}
use Rattle.tk_paths.proofs.Accepting.{fork-kind}
use Rattle.tk_paths.proofs.Sections.{F}
use Rattle.tk_paths.proofs.ProgramLaws.{sound}
use Rattle.tk_paths.proofs.CountLaws.{most-within, most-of, counted}

-- what a fork's children start with is part of a way
forks-way : (image : Parts) (worth : ℕ → ℕ) (b : ℕ) (code : Code) → way_most image worth code ≤ b → EachFork (λ lo n. total worth lo n ≤ b) code
forks-way image worth b (Passed r) h = tt
forks-way image worth b (Sequence x y) h = (forks-way image worth b x (omega (arith, h)), forks-way image worth b y (omega (arith, h)))
forks-way image worth b (Either p n at x y) h = (forks-way image worth b x (omega (arith, h)), forks-way image worth b y (omega (arith, h)))
forks-way image worth b (Turns p n at body q) h = forks-way image worth b body (omega (arith, h))
forks-way image worth b (Forever body q) h = forks-way image worth b body (omega (arith, h))
forks-way image worth b (Resting p) h = tt
forks-way image worth b (Forking p lo n) h = omega (arith, h)
forks-way image worth b (Guarded p j body) h = forks-way image worth b body (omega (arith, h))

each-fork : (P Q : ℕ → ℕ → Type 0) (code : Code) → ((lo n : ℕ) → P lo n → Q lo n) → EachFork P code → EachFork Q code
each-fork P Q (Passed r) f h = tt
each-fork P Q (Sequence x y) f h = (each-fork P Q x f h.0, each-fork P Q y f h.1)
each-fork P Q (Either p n at x y) f h = (each-fork P Q x f h.0, each-fork P Q y f h.1)
each-fork P Q (Turns p n at body q) f h = each-fork P Q body f h
each-fork P Q (Forever body q) f h = each-fork P Q body f h
each-fork P Q (Resting p) f h = tt
each-fork P Q (Forking p lo n) f h = f lo n h
each-fork P Q (Guarded p j body) f h = each-fork P Q body f h

all-points : (P : Point → Type 0) (points : List Point) → ((p : Point) → IsAmong p points → P p) → AllByRecursion P points
all-points P [] f = tt
all-points P (p ∷ points) f = (f p (inl refl), all-points P points (λ q k. f q (inr k)))

-- sums over slots of which each comes to the same
pub total-alike : (V W : ℕ → ℕ) (s : ℕ) → ((c : ℕ) → s < c → V c ≡ W c) → (n c : ℕ) → s < c → total V c n ≡ total W c n
total-alike V W s same zero c h = refl
total-alike V W s same (suc n) c h = let a = same c h in let b = total-alike V W s same n (c + 1) (omega (arith, h)) in omega (arith, a, b)

waits-most : (image : Parts) (W : ℕ → ℕ) (points : List Point) (p : Point) → IsAmong p points → total W ((children_at image p.at).0) ((children_at image p.at).1) ≤ waited_most image W p.slot points
waits-most image W [] p h = absurd h
waits-most image W (q ∷ points) p h =
    let later : IsAmong p points → total W ((children_at image p.at).0) ((children_at image p.at).1) ≤ waited_most image W p.slot points = λ r. waits-most image W points p r in
    ⊎_elim
    (λ e.
    let same : (q.slot == p.slot) ≡ true = ap (λ (x : Point). x.slot == p.slot) e ∙ itself p.slot in
    let a : (if q.slot == p.slot then total W ((children_at image q.at).0) ((children_at image q.at).1) else 0) ≡ total W ((children_at image p.at).0) ((children_at image p.at).1) =
    ap (λ (b : Bool). if b then total W ((children_at image q.at).0) ((children_at image q.at).1) else 0) same ∙ ap (λ (x : Point). total W ((children_at image x.at).0) ((children_at image x.at).1)) e in
    omega (arith, a))
    (λ r. let k = later r in omega (arith, k)) h
  where
    itself : (s : ℕ) → (s == s) ≡ true
    itself s = grind (arith, nat_tests)

module _ (image : Parts) (program : Program) (costs : List ℕ) (walk : Walk) (ok : IsProgram image program) (image_is : IsImage image) (positive : (c : Class) → 1 ≤ cost_of costs c) (small : (c : Class) → cost_of costs c ≤ 255) where
  abbrev T : ℕ → ℕ
  T = starts_most image program.threads

  abbrev S : ℕ → ℕ
  S = slots_most image program

  -- what a slot that waits comes to is told from later slots
  waits-from : (n s : ℕ) → ((i : ℕ) → slice_index_or (slots_most_from image program s n) i 0 ≡ S (s + i)) → (i : ℕ) → i < n → (p : Point) → IsAmong p image.forks → p.slot ≡ s + i → (lo m : ℕ) → children_at image p.at ≡ (lo, m) → p.slot < lo →
      total S lo m ≤ S p.slot
  waits-from zero s same i h p k e lo m kids above = absurd (omega (arith, h))
  waits-from (suc n) s same zero h p k e lo m kids above =
      let W : ℕ → ℕ = λ c. slice_index_or (slots_most_from image program (s + 1) n) (c - (s + 1)) 0 in
      let z : s ≡ s + 0 = omega arith in
      let at : p.slot ≡ s = e ∙ sym z in
      let later : (c : ℕ) → s < c → W c ≡ S c = λ c l. same (suc (c - (s + 1))) ∙ (let d : s + suc (c - (s + 1)) ≡ c = omega (arith, l) in ap S d) in
      let a = waits-most image W image.forks p k in
      let b : waited_most image W p.slot image.forks ≡ waited_most image W s image.forks = ap (λ x. waited_most image W x image.forks) at in
      let c : total W ((children_at image p.at).0) ((children_at image p.at).1) ≡ total W lo m = ap (λ (x : ℕ × ℕ). total W (x.0) (x.1)) kids in
      let d = total-alike W S s later m lo (omega (arith, above, at)) in
      let f : 8 * tests_most image program.sections + place_most image program + waited_most image W s image.forks ≡ S s = same 0 ∙ ap S (sym z) in
      let g : S p.slot ≡ S s = ap S at in
      omega (arith, a, b, c, d, f, g)
  waits-from (suc n) s same (suc i) h p k e lo m kids above =
      let d : (j : ℕ) → s + suc j ≡ s + 1 + j = λ j. omega arith in
      waits-from n (s + 1) (λ j. same (suc j) ∙ ap S (d j)) i (omega (arith, h)) p k (e ∙ d i) lo m kids above

  point-waits : (p : Point) → IsAmong p image.forks → total S ((children_at image p.at).0) ((children_at image p.at).1) ≤ S p.slot
  point-waits p k =
      let s = sound image program costs walk ok image_is positive in
      let fork = s.fork p k in
      let above = (fork-kind image (certificate image costs program walk) costs (F image program costs walk) image_is s p k).1 in
      let kids : children_at image p.at ≡ (fork.0, fork.1) = ap children_in fork.2 in
      let low = (all-among (IsPoint image) image.forks p image_is.forks.1 k).1 in
      let z : (i : ℕ) → i ≡ 0 + i = λ i. omega arith in
      let a = waits-from (length image.slots) 0 (λ i. ap S (z i)) p.slot low p k (z p.slot) fork.0 fork.1 kids above in
      let b : total S ((children_at image p.at).0) ((children_at image p.at).1) ≡ total S fork.0 fork.1 = ap (λ (x : ℕ × ℕ). total S (x.0) (x.1)) kids in
      omega (arith, a, b)

  pub small-numbers : IsCosts costs → AreSmall image program → HasSmallNumbers image program costs (certificate image costs program walk)
  small-numbers priced little =
      let n = counted image program costs walk ok image_is positive small in
      let place = little.places in
      let most : (s : ℕ) → S s ≤ most_cycles = little.slots in
      let begin : (s : ℕ) (code : Code) → slice_get program.threads s ≡ Some code → way_most image T code ≤ most_cycles = λ s code e.
      let k = (ok.thread s code e).1 in
      let m = most-of image program costs walk ok image_is positive small program.sections (OfThread s code) k in
      omega (arith, m, place) in
      record {
        lines = all-wider (place_most image program) most_cycles place _ n.lines;
        weights = light-wider (place_most image program) most_cycles _ place n.weights;
        started = λ s code e.
            each-fork (λ lo m. total T lo m ≤ most_cycles) (λ lo m. resumed_most (starts_in image costs program.threads) lo m ≤ most_cycles) code
            (λ lo m h. let r = most-within (starts_in image costs program.threads) T (λ side c. n.starts side c) m lo in omega (arith, r, h)) (forks-way image T most_cycles code (begin s code e));
        slots = λ s side. below-wider (S s) most_cycles (resumed image (certificate image costs program walk) costs side s) (most s) (n.slots s side);
        waits = all-points (λ (p : Point). resumed_most (resumed image (certificate image costs program walk) costs) ((children_at image p.at).0) ((children_at image p.at).1) ≤ most_cycles) image.forks
            (λ p k.
            let r = most-within (resumed image (certificate image costs program walk) costs) S (λ side c. n.slots c side) ((children_at image p.at).1) ((children_at image p.at).0) in
            let w = point-waits p k in
            let l = most p.slot in
            omega (arith, r, w, l));
        bound = (let b = n.bound in let l = little.bound costs priced in omega (arith, b, l));
      }
