-- No tick of an image is charged more than 1,000,000,000,000, within the limits of the language.
use Rattle.std.proofs.Common.{◌≡◌, ℕ, zero, suc, ◌+◌, ◌*◌, ◌<◌, ◌≤◌, ◌++◌, Bool, List, [], ◌∷◌, length, length-append, refl, ap, subst, mul-le-mul_right, mul-le-mul_left, ◌-◌, arith}
use Rattle.std.specs.List.{AllByRecursion}
use Rattle.mb_isa.specs.declared.Class.TheVariants as class
use Rattle.mb_isa.specs.Costs.{cost_of}
use Rattle.mb_isa.proofs.CostRange.{cost_of-range}
use Rattle.mb_pfu.specs.Tree.{Tree}
use Rattle.pt_image.specs.declared.Parts.{Parts}
use Rattle.mb_isa.specs.Tick.{base_of}
use Rattle.pc_lower.specs.declared.nodes.Step.{Step}
use Rattle.pc_lower.specs.declared.nodes.Test.{Test}
use Rattle.pc_lower.specs.Flow.{Node, Nodes, straight, sequence, branch, turns, bounded, call, pause, fork, guard, no_nodes, and, Rest, Rests, Flow, Flows, is_weak, flows_of, Position, Fresh, Waits, Stopped}
use Rattle.pc_lower.specs.Residuals.{body_at, Of, OfAll, OfThreads, of_list, of_first, of_second, of_turns, of_pause, of_guard, of_fork, of_last, of_head, of_tail, of_nobody, of_over, of_going}
use Rattle.pc_lower.specs.Slots.{Runs}
use Rattle.pc_lower.specs.Laid.{Placing, Laid, LaidAll}
use Rattle.pc_lower.specs.StepCounts.{Sizes, total_of, option_words, through, through_all, reach, tick_in}
use Rattle.pc_lower.specs.Program.{IsEarlier, AreEarlier, HasRoom, HaveRoom}
use Rattle.pc_lower.specs.Tests.{tests_in, tests_in_all}
use Rattle.pc_lower.specs.Words.{HasSteps, HasTest, Writing}
use Rattle.pc_lower.specs.Image.{condition_words, IsImageOf, StandsAt, steps_at}
use Rattle.pc_lower.specs.Bounds.{span, span_all, depth, depth_all, forks_in, forks_in_all}
use Rattle.pc_lower.specs.Limits.{threads_of, threads_of_all, started_by, times_in, times_below, sum_below, without_threads, passage, IsWithinLimits}
use Rattle.pc_lower.proofs.Earlier.{earlier}
use Rattle.pc_lower.proofs.Bounds.{worst_is, reach-span}
use Rattle.pc_lower.proofs.RegionThreads.{total-append, all-append, all-as, all-both, all-less, total-mono, below-more, sum-more, one-less, sums}

-- ---- nodes

-- they start earlier functions alone
mutual
  pub starts-earlier : (below : ℕ) (n : Node) → IsEarlier below n → AllByRecursion (λ g. g < below) (threads_of n)
  starts-earlier below (straight steps) early = tt
  starts-earlier below (sequence nodes) early = all-start-earlier below nodes early
  starts-earlier below (branch test a b) early = all-append (λ g. g < below) (threads_of a) (threads_of b) (starts-earlier below a early.0) (starts-earlier below b early.1)
  starts-earlier below (turns test body) early = starts-earlier below body early
  starts-earlier below (bounded n test body) early = tt
  starts-earlier below (call f) early = tt
  starts-earlier below (pause i) early = tt
  starts-earlier below (fork i fs) early = early
  starts-earlier below (guard j body) early = starts-earlier below body early

  all-start-earlier : (below : ℕ) (nodes : Nodes) → AreEarlier below nodes → AllByRecursion (λ g. g < below) (threads_of_all nodes)
  all-start-earlier below no_nodes early = tt
  all-start-earlier below (and n nodes) early = all-append (λ g. g < below) (threads_of n) (threads_of_all nodes) (starts-earlier below n early.0) (all-start-earlier below nodes early.1)

module _ (sizes : Sizes) (placing : Placing) where
  -- inside a bounded loop no threads are started
  mutual
    through-same : (n : Node) (l k : ℕ) → 1 ≤ k → HasRoom placing n l k → through sizes n ≡ through (without_threads sizes) n
    through-same (straight steps) l k le room = refl
    through-same (sequence nodes) l k le room = through-same-all nodes l k le room
    through-same (branch test a b) l k le room =
        let x = through-same a l k le room.0 in
        let y = through-same b l k le room.1 in
        omega (arith, x, y)
    through-same (turns test body) l k le room = refl
    through-same (bounded n test body) l k le room =
        ap (λ t. n * (option_words sizes test + t + 3) + (option_words sizes test + 4)) (through-same body l (k + 1) (omega arith) room.1)
    through-same (call f) l k le room = refl
    through-same (pause i) l k le room = refl
    through-same (fork i fs) l k le room = absurd (omega (arith, le, room.1))
    through-same (guard j body) l k le room = absurd (omega (arith, le, room.1))

    through-same-all : (nodes : Nodes) (l k : ℕ) → 1 ≤ k → HaveRoom placing nodes l k → through_all sizes nodes ≡ through_all (without_threads sizes) nodes
    through-same-all no_nodes l k le room = refl
    through-same-all (and n nodes) l k le room =
        let x = through-same n l k le room.0 in
        let y = through-same-all nodes l k le room.1 in
        omega (arith, x, y)

  -- a node's words, and what the threads take that it starts
  mutual
    span-split : (n : Node) (l k : ℕ) → HasRoom placing n l k → span sizes n ≤ span (without_threads sizes) n + total_of sizes.threads (threads_of n)
    span-split (straight steps) l k room = omega arith
    span-split (sequence nodes) l k room = span-split-all nodes l k room
    span-split (branch test a b) l k room =
        let x = span-split a l k room.0 in
        let y = span-split b l k room.1 in
        let t = total-append sizes.threads (threads_of a) (threads_of b) in
        omega (arith, x, y, t)
    span-split (turns test body) l k room = let x = span-split body l k room in omega (arith, x)
    span-split (bounded n test body) l k room =
        let x : n * (option_words sizes test + through sizes body + 3) ≡ n * (option_words sizes test + through (without_threads sizes) body + 3) =
        ap (λ t. n * (option_words sizes test + t + 3)) (through-same body l (k + 1) (omega arith) room.1) in
        omega (arith, x)
    span-split (call f) l k room = omega arith
    span-split (pause i) l k room = omega arith
    span-split (fork i fs) l k room = omega arith
    span-split (guard j body) l k room = let x = span-split body l k room.2 in omega (arith, x)

    span-split-all : (nodes : Nodes) (l k : ℕ) → HaveRoom placing nodes l k → span_all sizes nodes ≤ span_all (without_threads sizes) nodes + total_of sizes.threads (threads_of_all nodes)
    span-split-all no_nodes l k room = omega arith
    span-split-all (and n nodes) l k room =
        let x = span-split n l k room.0 in
        let y = span-split-all nodes l k room.1 in
        let t = total-append sizes.threads (threads_of n) (threads_of_all nodes) in
        omega (arith, x, y, t)

module _ (worst : ℕ → ℕ) where
  mutual
    forks-less : (n : Node) → forks_in worst n ≤ total_of worst (threads_of n)
    forks-less (straight steps) = omega arith
    forks-less (sequence nodes) = forks-less-all nodes
    forks-less (branch test a b) = omega (arith, forks-less a, forks-less b, total-append worst (threads_of a) (threads_of b))
    forks-less (turns test body) = forks-less body
    forks-less (bounded n test body) = omega arith
    forks-less (call f) = omega arith
    forks-less (pause i) = omega arith
    forks-less (fork i fs) = omega arith
    forks-less (guard j body) = forks-less body

    forks-less-all : (nodes : Nodes) → forks_in_all worst nodes ≤ total_of worst (threads_of_all nodes)
    forks-less-all no_nodes = omega arith
    forks-less-all (and n nodes) = omega (arith, forks-less n, forks-less-all nodes, total-append worst (threads_of n) (threads_of_all nodes))

-- the conditions of a residual, where each takes at most so many steps
module _ (tests : ℕ → ℕ) (few : (j : ℕ) → tests j ≤ 60002) (bodies : List Node) (worst : ℕ → ℕ) (wide : (f : ℕ) → 60002 * depth (body_at bodies f) + forks_in worst (body_at bodies f) ≤ worst f) where
  mutual
    tests-less : (n : Node) (r : Rest) → Of bodies n r → tests_in tests r ≤ 60002 * depth n + forks_in worst n
    tests-less n r (of_list {nodes = nodes} {r = q} o) = tests-less-all nodes q o
    tests-less n r (of_first {a = a} {r = q} o) = let h = tests-less a q o in omega (arith, h)
    tests-less n r (of_second {b = b} {r = q} o) = let h = tests-less b q o in omega (arith, h)
    tests-less n r (of_turns {body = body} {r = q} o) = tests-less body q o
    tests-less n r (of_pause {i = i}) = omega arith
    tests-less n r (of_guard {j = j} {body = body} {r = q} o) = let h = tests-less body q o in omega (arith, h, few j)
    tests-less n r (of_fork {fs = fs} {rs = rs} o some) = let h = tests-threads fs rs o in omega (arith, h)

    tests-less-all : (nodes : Nodes) (r : Rest) → OfAll bodies nodes r → tests_in tests r ≤ 60002 * depth_all nodes + forks_in_all worst nodes
    tests-less-all nodes r (of_last {n = n} {r = q} o) = let h = tests-less n q o in omega (arith, h)
    tests-less-all nodes r (of_head {n = n} {r = q} o) = let h = tests-less n q o in omega (arith, h)
    tests-less-all nodes r (of_tail {nodes = more} {r = q} o) = let h = tests-less-all more q o in omega (arith, h)

    tests-threads : (fs : List ℕ) (rs : Rests) → OfThreads bodies fs rs → tests_in_all tests rs ≤ total_of worst fs
    tests-threads fs rs of_nobody = omega arith
    tests-threads fs rs (of_over {fs = gs} {rs = more} o) = let h = tests-threads gs more o in omega (arith, h)
    tests-threads fs rs (of_going {f = f} {fs = gs} {r = q} {rs = more} o os) =
        let h = tests-less (body_at bodies f) q o in
        let t = tests-threads gs more os in
        omega (arith, h, t, wide f)

-- aborts stand 8 deep at most, and threads in slots of their own
module _ (parent : ℕ → ℕ) (image : Parts) (known : Flows) (weak : ℕ → Bool) (HasSteps : List Step → ℕ → ℕ → Type 0) (HasTest : Test → ℕ → ℕ → ℕ → Type 0) (placing : Placing) where
  -- a slot runs the function
  abbrev IsRun : ℕ → Type 0
  IsRun g = (c : ℕ) × (c < length image.slots) × (placing.thread c ≡ g)

  runs-all : (fs : List ℕ) (c : ℕ) → c + length fs ≤ length image.slots → Runs placing.thread c fs → AllByRecursion IsRun fs
  runs-all [] c le run = tt
  runs-all (f ∷ fs) c le run = ((c, omega arith, run.0), runs-all fs (c + 1) (omega arith) run.1)

  module _ (s : ℕ) where
    mutual
      laid-deep : (n : Node) (a : List ℕ) (from to : ℕ) → Laid parent image known weak HasSteps HasTest placing s n a from to → length a ≤ 8 → depth n + length a ≤ 8
      laid-deep (straight steps) a from to laid le = omega arith
      laid-deep (sequence nodes) a from to laid le = all-laid-deep nodes a from to laid le
      laid-deep (branch test x y) a from to laid le = omega (arith, laid-deep x a laid.0 laid.1 laid.4 le, laid-deep y a laid.2 to laid.6 le)
      laid-deep (turns test body) a from to laid le = laid-deep body a laid.0 laid.1 laid.3 le
      laid-deep (bounded n test body) a from to laid le = omega arith
      laid-deep (call f) a from to laid le = omega arith
      laid-deep (pause i) a from to laid le = omega arith
      laid-deep (fork i fs) a from to laid le = omega arith
      laid-deep (guard j body) a from to laid le =
          let n : length (a ++ j ∷ []) ≡ length a + 1 = length-append a (j ∷ []) in
          let h = laid-deep body (a ++ j ∷ []) (from + 1) laid.0 laid.2 (omega (arith, n, laid.6)) in
          omega (arith, n, h)

      all-laid-deep : (nodes : Nodes) (a : List ℕ) (from to : ℕ) → LaidAll parent image known weak HasSteps HasTest placing s nodes a from to → length a ≤ 8 → depth_all nodes + length a ≤ 8
      all-laid-deep no_nodes a from to laid le = omega arith
      all-laid-deep (and n nodes) a from to laid le = omega (arith, laid-deep n a from laid.0 laid.1 le, all-laid-deep nodes a laid.0 to laid.2 le)

    mutual
      laid-run : (n : Node) (a : List ℕ) (from to : ℕ) → Laid parent image known weak HasSteps HasTest placing s n a from to → AllByRecursion IsRun (threads_of n)
      laid-run (straight steps) a from to laid = tt
      laid-run (sequence nodes) a from to laid = all-laid-run nodes a from to laid
      laid-run (branch test x y) a from to laid = all-append IsRun (threads_of x) (threads_of y) (laid-run x a laid.0 laid.1 laid.4) (laid-run y a laid.2 to laid.6)
      laid-run (turns test body) a from to laid = laid-run body a laid.0 laid.1 laid.3
      laid-run (bounded n test body) a from to laid = tt
      laid-run (call f) a from to laid = tt
      laid-run (pause i) a from to laid = tt
      laid-run (fork i fs) a from to laid = runs-all fs laid.0 laid.4.1 laid.4.3
      laid-run (guard j body) a from to laid = laid-run body (a ++ j ∷ []) (from + 1) laid.0 laid.2

      all-laid-run : (nodes : Nodes) (a : List ℕ) (from to : ℕ) → LaidAll parent image known weak HasSteps HasTest placing s nodes a from to → AllByRecursion IsRun (threads_of_all nodes)
      all-laid-run no_nodes a from to laid = tt
      all-laid-run (and n nodes) a from to laid = all-append IsRun (threads_of n) (threads_of_all nodes) (laid-run n a from laid.0 laid.1) (all-laid-run nodes a laid.0 to laid.2)

-- ---- a worth that each function shares with those that it starts

module _ (started : ℕ → List ℕ) (earlier-ones : (f : ℕ) → AllByRecursion (λ g. g < f) (started f)) (own : ℕ → ℕ) where
  abbrev within : ℕ → ℕ → ℕ
  within zero f = 0
  within (suc n) f = own f + total_of (within n) (started f)

  abbrev shared : ℕ → ℕ
  shared f = within (suc f) f

  all-of : (P : ℕ → Type 0) (xs : List ℕ) → ((x : ℕ) → P x) → AllByRecursion P xs
  all-of P [] h = tt
  all-of P (x ∷ xs) h = (h x, all-of P xs h)

  one-more : (n f : ℕ) → within n f ≤ within (suc n) f
  one-more zero f = omega arith
  one-more (suc n) f = let h = total-mono (within n) (within (suc n)) (started f) (all-of (λ g. within n g ≤ within (suc n) g) (started f) (one-more n)) in omega (arith, h)

  more-steps : (k n f : ℕ) → within n f ≤ within (k + n) f
  more-steps zero n f = let e : 0 + n ≡ n = omega arith in rw e (omega arith)
  more-steps (suc k) n f =
      let e : suc k + n ≡ suc (k + n) = omega arith in
      let h = more-steps k n f in
      let g = one-more (k + n) f in
      rw e (omega (arith, h, g))

  enough : (n m f : ℕ) → n ≤ m → within n f ≤ within m f
  enough n m f le = let h = more-steps (m - n) n f in let e : m - n + n ≡ m = omega (arith, le) in subst (λ i. within n f ≤ within i f) e h

  no-more : (bound g n : ℕ) → g < bound → within n g ≤ within (suc g) g
  no-more zero g n lt = absurd (omega arith)
  no-more (suc bound) g zero lt = omega arith
  no-more (suc bound) g (suc n) lt =
      let h = total-mono (within n) (within g) (started g) (all-as (λ k. k < g) (λ k. within n k ≤ within g k) (started g) (λ k less. let x = no-more bound k n (omega (arith, less)) in let y = enough (suc k) g k (omega (arith, less)) in omega (arith, x, y)) (earlier-ones g)) in
      omega (arith, h)

  -- it holds what they have
  shares : (f : ℕ) → own f + total_of shared (started f) ≤ shared f
  shares f =
      let h = total-mono shared (within f) (started f) (all-as (λ k. k < f) (λ k. within (suc k) k ≤ within f k) (started f) (λ k less. enough (suc k) f k (omega (arith, less))) (earlier-ones f)) in
      omega (arith, h)

  -- and no more
  shares-all : (f : ℕ) → shared f ≤ own f + total_of shared (started f)
  shares-all f =
      let h = total-mono (within f) shared (started f) (all-as (λ k. k < f) (λ k. within f k ≤ within (suc k) k) (started f) (λ k less. no-more (suc k) k f (omega arith)) (earlier-ones f)) in
      omega (arith, h)

total-same : (most : ℕ) (xs : List ℕ) → total_of (λ g. most) xs ≡ most * total_of (λ g. 1) xs
total-same most [] = omega arith
total-same most (x ∷ xs) = let h = total-same most xs in omega (arith, h)

sum-same : (started : ℕ → List ℕ) (most n : ℕ) → sum_below started (λ g. most) n ≡ most * sum_below started (λ g. 1) n
sum-same started most zero = omega arith
sum-same started most (suc n) =
    let h = sum-same started most n in
    let t = total-same most (started n) in
    omega (arith, h, t)

-- ---- the whole

module _ (parent : ℕ → ℕ) (image : Parts) (costs : List ℕ) (f : Flow) (writing : Writing) (sizes : Sizes) (placing : Placing) (whole : IsImageOf parent image costs f writing sizes placing) (small : IsWithinLimits image f writing sizes) where
  abbrev started : ℕ → List ℕ
  started g = started_by f.bodies g

  abbrev count : ℕ
  count = length f.bodies

  abbrev body : ℕ → Node
  body g = body_at f.bodies g

  early : (g : ℕ) → AllByRecursion (λ k. k < g) (started g)
  early g = starts-earlier g (body g) (earlier f.bodies whole.compiled.order g)

  -- a thread
  abbrev IsThreadOf : ℕ → Type 0
  IsThreadOf g = IsRun parent image (flows_of f.bodies) (is_weak f.aborts) (HasSteps image writing) (HasTest image writing) placing g × (g < count) × (passage sizes f.bodies g ≤ 2000000)

  main-is : IsThreadOf f.main
  main-is = ((0, whole.compiled.some, whole.compiled.starts), small.main_is, omega (arith, small.passages))

  theirs : (g : ℕ) → IsThreadOf g → AllByRecursion IsThreadOf (started g)
  theirs g h =
      let t = whole.compiled.threads h.0.0 g h.0.1 h.0.2 in
      let IsRunIn : ℕ → Type 0 = IsRun parent image (flows_of f.bodies) (is_weak f.aborts) (HasSteps image writing) (HasTest image writing) placing in
      let run = laid-run parent image (flows_of f.bodies) (is_weak f.aborts) (HasSteps image writing) (HasTest image writing) placing h.0.0 (body g) [] _ t.stop t.laid in
      let lower = all-as (λ k. k < g) (λ k. k < count) (started g) (λ k less. omega (arith, less, h.1)) (early g) in
      let all : total_of (passage sizes f.bodies) (started g) ≤ 2000000 = let x = one-less started early (passage sizes f.bodies) g count h.1 in omega (arith, x, small.passages) in
      let short = all-less (passage sizes f.bodies) 2000000 (started g) all in
      all-as (λ k. IsRunIn k × ((k < count) × (passage sizes f.bodies k ≤ 2000000))) IsThreadOf (started g) (λ k x. (x.0, x.1.0, x.1.1))
      (all-both IsRunIn (λ k. (k < count) × (passage sizes f.bodies k ≤ 2000000)) (started g) run (all-both (λ k. k < count) (λ k. passage sizes f.bodies k ≤ 2000000) (started g) lower short))

  split-of : (g : ℕ) → IsThreadOf g → span sizes (body g) + 1 ≤ passage sizes f.bodies g + total_of sizes.threads (started g)
  split-of g h =
      let t = whole.compiled.threads h.0.0 g h.0.1 h.0.2 in
      let x = span-split sizes placing (body g) 0 0 t.room in
      omega (arith, x)

  thread-shared : (g : ℕ) → IsThreadOf g → sizes.threads g ≤ passage sizes f.bodies g + total_of sizes.threads (started g)
  thread-shared g h = let x = split-of g h in let y = small.exact g in omega (arith, x, y)

  -- a thread with all that it starts
  span-most : (g : ℕ) → IsThreadOf g → span sizes (body g) + 1 ≤ 4000000
  span-most g h =
      let once : (q : ℕ) → times_in q (started g) + times_below started q g ≤ 1 = λ q. let a = below-more started early q (suc g) count (omega (arith, h.1)) in let b = small.once q in omega (arith, a, b) in
      let s = sums started early IsThreadOf theirs (passage sizes f.bodies) sizes.threads thread-shared g (started g) (early g) (theirs g h) once in
      let m = sum-more started early (passage sizes f.bodies) (suc g) count (omega (arith, h.1)) in
      let x = split-of g h in
      omega (arith, s, m, x, h.2, small.passages)

  deep-most : (g : ℕ) → IsThreadOf g → depth (body g) ≤ 8
  deep-most g h =
      let t = whole.compiled.threads h.0.0 g h.0.1 h.0.2 in
      let d = laid-deep parent image (flows_of f.bodies) (is_weak f.aborts) (HasSteps image writing) (HasTest image writing) placing h.0.0 (body g) [] _ t.stop t.laid (omega arith) in
      omega (arith, d)

  abbrev own_steps : ℕ → ℕ
  own_steps g = span sizes (body g) + (depth (body g) * reach sizes (body g) + reach sizes (body g)) + 1

  own-most : (g : ℕ) → IsThreadOf g → own_steps g ≤ 40000000
  own-most g h =
      let a = span-most g h in
      let b = reach-span sizes (body g) in
      let c : depth (body g) * reach sizes (body g) ≤ 8 * reach sizes (body g) = mul-le-mul_right (reach sizes (body g)) (deep-most g h) in
      omega (arith, a, b, c)

  abbrev own_tests : ℕ → ℕ
  own_tests g = 60002 * depth (body g)

  tests-most : (g : ℕ) → IsThreadOf g → own_tests g ≤ 480016
  tests-most g h = let a = deep-most g h in omega (arith, a)

  -- what `main` shares, where each thread has so much of its own
  main-most : (own : ℕ → ℕ) (most : ℕ) → ((g : ℕ) → IsThreadOf g → own g ≤ most) → shared started early own f.main ≤ most * 64
  main-most own most le =
      let have : (g : ℕ) → IsThreadOf g → shared started early own g ≤ most + total_of (shared started early own) (started g) = λ g h. let x = shares-all started early own g in let y = le g h in omega (arith, x, y) in
      let s = sums started early IsThreadOf theirs (λ g. most) (shared started early own) have count (f.main ∷ []) (small.main_is, tt) (main-is, tt) small.once in
      let t = sum-same started most count in
      let c : most * (1 + sum_below started (λ g. 1) count) ≤ most * 64 = by (1 + sum_below started (λ g. 1) count) small.few in
      omega (arith, s, t, c)
    where
      by : (n : ℕ) → n ≤ 64 → most * n ≤ most * 64
      by n le64 = mul-le-mul_left most le64

  waits-most : (r : Rest) (of : Of f.bodies (body f.main) r) → tests_in (condition_words writing f) r + tick_in sizes f.bodies (body f.main) r of ≤ 2590721024
  waits-most r of =
      let steps = shared started early own_steps in
      let wide : (g : ℕ) → span sizes (body g) + (depth (body g) * reach sizes (body g) + reach sizes (body g)) + forks_in steps (body g) + 1 ≤ steps g = λ g. let x = forks-less steps (body g) in let y = shares started early own_steps g in omega (arith, x, y) in
      let a = worst_is sizes steps f.bodies wide f.main r of in
      let b = main-most own_steps 40000000 own-most in
      let tests = shared started early own_tests in
      let wide_tests : (g : ℕ) → 60002 * depth (body g) + forks_in tests (body g) ≤ tests g = λ g. let x = forks-less tests (body g) in let y = shares started early own_tests g in omega (arith, x, y) in
      let c = tests-less (condition_words writing f) small.conditions f.bodies tests wide_tests (body f.main) r of in
      let d = wide_tests f.main in
      let e = main-most own_tests 480016 tests-most in
      omega (arith, a, b, c, d, e)

  steps-most : (p : Position) (t : Tree) (stands : StandsAt parent image f p t) → steps_at parent image f writing sizes p t stands ≤ 2590721024
  steps-most Fresh t stands = let x = small.exact f.main in let y = span-most f.main main-is in omega (arith, x, y)
  steps-most (Waits r) t stands = waits-most r stands.0
  steps-most Stopped t stands = omega arith

  pub limited : (p : Position) (t : Tree) (stands : StandsAt parent image f p t) → base_of image costs + 255 * steps_at parent image f writing sizes p t stands ≤ 1000000000000
  limited p t stands =
      let x = steps-most p t stands in
      let c = cost_of-range costs whole.compiled.priced class.Tick in
      let n : cost_of costs class.Tick * (1 + length image.inputs + length image.outputs) ≤ 255 * (1 + length image.inputs + length image.outputs) = mul-le-mul_right (1 + length image.inputs + length image.outputs) (omega (arith, c)) in
      omega (arith, x, n, small.ports)
