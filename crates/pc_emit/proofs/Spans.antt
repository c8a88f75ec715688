-- What the regions and the codes of nodes come to: no more than 255 for each of the steps that the nodes are counted with.
use Rattle.std.proofs.Common.{◌≡◌, ◌≤◌, ◌+◌, ◌-◌, ◌*◌, ◌++◌, ℕ, zero, suc, ℤ, List, [], ◌∷◌, length, length-append, slice_index_or, Option, Some, None, refl, ap, ◌∙◌, arith}
use Rattle.std.specs.List.{AllByRecursion}
use Rattle.pt_image.specs.declared.Parts.{Parts}
use Rattle.pc_lower.specs.declared.nodes.Step.{Step}
use Rattle.pc_lower.specs.declared.nodes.Test.{Test}
use Rattle.pc_lower.specs.Flow.{Node, Nodes, straight, sequence, branch, turns, bounded, call, pause, fork, guard, no_nodes, and}
use Rattle.pc_lower.specs.Words.{words_in, Writing}
use Rattle.pc_lower.specs.StepCounts.{Sizes, through, through_all}
use Rattle.pc_lower.specs.Bounds.{span, span_all}
use Rattle.pc_lower.specs.Limits.{threads_of, threads_of_all}
use Rattle.tk_paths.specs.Regions.{Region, from, to, half, behind_half, behind, IsLaid}
use Rattle.tk_paths.specs.Codes.{Code, entry, exit, IsLaidIn}
use Rattle.tk_paths.specs.Counts.{words_most, total, region_most, way_most}
use Rattle.tk_paths.specs.Trees.{routine_at}
use Rattle.pc_emit.specs.Code.{loop_size, test_size, size}
use Rattle.pc_emit.specs.Sections.{calls_in, calls_in_all, region, regions, thread_code, thread_codes}
use Rattle.pc_emit.proofs.LoopWords.{loop-behind}

-- loops with a number turn at least once
abbrev mutual
  pub IsTurning : Node → Type 0
  IsTurning (straight steps) = Unit {0}
  IsTurning (sequence nodes) = AreTurning nodes
  IsTurning (branch test a b) = IsTurning a × IsTurning b
  IsTurning (turns test body) = IsTurning body
  IsTurning (bounded n test body) = (1 ≤ n) × IsTurning body
  IsTurning (call f) = Unit {0}
  IsTurning (pause i) = Unit {0}
  IsTurning (fork i fs) = Unit {0}
  IsTurning (guard j body) = IsTurning body

  pub AreTurning : Nodes → Type 0
  AreTurning no_nodes = Unit {0}
  AreTurning (and n nodes) = IsTurning n × AreTurning nodes

all-left : (P : ℕ → Type 0) (xs ys : List ℕ) → AllByRecursion P (xs ++ ys) → AllByRecursion P xs
all-left P [] ys h = tt
all-left P (x ∷ xs) ys h = (h.0, all-left P xs ys h.1)

all-right : (P : ℕ → Type 0) (xs ys : List ℕ) → AllByRecursion P (xs ++ ys) → AllByRecursion P ys
all-right P [] ys h = h
all-right P (x ∷ xs) ys h = all-right P xs ys h.1

mul-up : (g v w : ℕ) → v ≤ w → g * v ≤ g * w
mul-up zero v w h = omega arith
mul-up (suc g) v w h =
    let r = mul-up g v w h in
    let x : suc g * v ≡ g * v + v = omega arith in
    let y : suc g * w ≡ g * w + w = omega arith in
    omega (arith, r, x, y, h)

-- a loop with a test, and one without
tested-loop : (k most a b c r o t : ℕ) → suc k ≡ most → a ≤ 510 → b ≤ 255 * (1 + o) → c ≤ 510 → r ≤ 255 * t →
    a + suc k * (b + r + c) + (b + 255) ≤ 255 * (most * (o + t + 3) + (o + 4))
tested-loop k most a b c r o t e ha hb hc hr =
    let m = mul-up (suc k) (b + r + c) (255 * (o + t + 3)) (omega (arith, hb, hc, hr)) in
    let x : suc k * (255 * (o + t + 3)) ≡ 255 * (suc k * (o + t + 3)) = omega arith in
    let y : suc k * (o + t + 3) ≡ most * (o + t + 3) = ap (λ n. n * (o + t + 3)) e in
    let z : 255 * (suc k * (o + t + 3)) ≡ 255 * (most * (o + t + 3)) = ap (λ n. 255 * n) y in
    let w : 255 * (most * (o + t + 3) + (o + 4)) ≡ 255 * (most * (o + t + 3)) + 255 * (o + 4) = omega arith in
    omega (arith, m, x, z, w, ha, hb)

plain-loop : (k most a b c r t : ℕ) → suc k ≡ most → a ≤ 510 → b ≤ 255 → c ≤ 510 → r ≤ 255 * t →
    a + suc k * (b + r + c) + b ≤ 255 * (most * (0 + t + 3) + (0 + 4))
plain-loop k most a b c r t e ha hb hc hr =
    let h = tested-loop k most a b c r 0 t e ha (omega (arith, hb)) hc hr in
    omega (arith, h)

total-split : (worth : ℕ → ℕ) (c m n : ℕ) → total worth c (m + n) ≡ total worth c m + total worth (c + m) n
total-split worth c zero n =
    let e : 0 + n ≡ n = omega arith in
    let d : c ≡ c + 0 = omega arith in
    ap (total worth c) e ∙ (ap (λ x. total worth x n) d ∙ omega arith)
total-split worth c (suc m) n =
    let e : suc m + n ≡ suc (m + n) = omega arith in
    let r = total-split worth (c + 1) m n in
    let d : c + 1 + m ≡ c + suc m = omega arith in
    let f : total worth (c + 1 + m) n ≡ total worth (c + suc m) n = ap (λ x. total worth x n) d in
    let a : total worth c (suc m + n) ≡ worth c + total worth (c + 1) (m + n) = ap (total worth c) e in
    omega (arith, a, r, f)

threads-split : (worth : ℕ → ℕ) (c : ℕ) (xs ys : List ℕ) → total worth c (length (xs ++ ys)) ≡ total worth c (length xs) + total worth (c + length xs) (length ys)
threads-split worth c xs ys = ap (total worth c) (length-append xs ys) ∙ total-split worth c (length xs) (length ys)

module _ (image : Parts) where
  behind-two : (p : ℕ) → behind image p ≤ p + 2
  behind-two p = by (half image p)
    where
      by : (o : Option ℤ) → behind_half o p + 1 ≤ p + 2
      by None = omega arith
      by (Some upper) = omega arith

  module _ (writing : Writing) (sizes : Sizes) (numbers : List ℕ) (routines : List Region)
      (words : (p : List Step) → words_in (writing.words_of p) ≤ sizes.words p) (tests : (t : Test) → words_in (writing.test_words_of t) + 2 ≤ sizes.test_words t) where
    abbrev R : Node → ℕ → Region
    R = region writing numbers routines

    abbrev Rs : Nodes → ℕ → Region
    Rs = regions writing numbers routines

    -- the region of a function takes no more than it is counted with
    abbrev pub IsKnown : ℕ → Type 0
    IsKnown f = (at : ℕ) → region_most image (routine_at routines at (slice_index_or numbers f 0)) + 255 ≤ 255 * sizes.routines f

    -- ---- regions

    mutual
      region-from : (n : Node) (at : ℕ) → from (R n at) ≡ at
      region-from (straight steps) at = refl
      region-from (sequence nodes) at = regions-from nodes at
      region-from (branch test a b) at = refl
      region-from (turns test body) at = refl
      region-from (bounded most None body) at = refl
      region-from (bounded most (Some test) body) at = refl
      region-from (call f) at = refl
      region-from (pause i) at = refl
      region-from (fork i fs) at = refl
      region-from (guard j body) at = refl

      regions-from : (nodes : Nodes) (at : ℕ) → from (Rs nodes at) ≡ at
      regions-from no_nodes at = refl
      regions-from (and n nodes) at = region-from n at

    mutual
      pub small-region : (n : Node) (at : ℕ) → IsTurning n → AllByRecursion IsKnown (calls_in n) → IsLaid image (R n at) → region_most image (R n at) ≤ 255 * through sizes n
      small-region (straight steps) at t k l = let w = words steps in omega (arith, w)
      small-region (sequence nodes) at t k l = small-regions nodes at t k l
      small-region (branch test a b) at t k l =
          let x = at + test_size writing test in
          let y = at + test_size writing test + size writing a + 2 in
          let ha = small-region a x t.0 (all-left IsKnown (calls_in a) (calls_in b) k) l.3 in
          let hb = small-region b y t.1 (all-right IsKnown (calls_in a) (calls_in b) k) l.6 in
          let e = region-from a x in
          let w = tests test in
          let j = l.5 in
          let d = behind-two (to (R a x)) in
          omega (arith, ha, hb, e, w, j, d)
      small-region (turns test body) at t k l = omega arith
      small-region (bounded most None body) at t k l =
          let p = behind image at in
          let x = at + loop_size most + 1 + 0 in
          let h = small-region body x t.1 k l.3 in
          let e : suc (most - 1) ≡ most = (let o = t.0 in omega (arith, o)) in
          let q = x + size writing body + 2 in
          let d = behind-two at in
          let f = region-from body x in
          let j = l.5 in
          let i = behind-two (to (R body x)) in
          let g = l.2 in
          plain-loop (most - 1) most (words_most at p) (words_most p (from (R body x))) (words_most (to (R body x)) q) (region_most image (R body x)) (through sizes body) e
          (omega (arith, d)) (omega (arith, g)) (omega (arith, i, j)) h
      small-region (bounded most (Some test) body) at t k l =
          let p = behind image at in
          let x = at + loop_size most + 1 + test_size writing test in
          let h = small-region body x t.1 k l.5 in
          let e : suc (most - 1) ≡ most = (let o = t.0 in omega (arith, o)) in
          let q = x + size writing body + 2 in
          let d = behind-two at in
          let f = region-from body x in
          let j = l.7 in
          let i = behind-two (to (R body x)) in
          let b = loop-behind image at (suc (most - 1)) l.0 in
          let c = ap loop_size e in
          let w = tests test in
          tested-loop (most - 1) most (words_most at p) (words_most p (from (R body x))) (words_most (to (R body x)) q) (region_most image (R body x)) (sizes.test_words test) (through sizes body) e
          (omega (arith, d)) (omega (arith, f, b, c, w)) (omega (arith, i, j)) h
      small-region (call f) at t k l = let h = k.0 at in omega (arith, h)
      small-region (pause i) at t k l = omega arith
      small-region (fork i fs) at t k l = omega arith
      small-region (guard j body) at t k l = omega arith

      small-regions : (nodes : Nodes) (at : ℕ) → AreTurning nodes → AllByRecursion IsKnown (calls_in_all nodes) → IsLaid image (Rs nodes at) → region_most image (Rs nodes at) ≤ 255 * through_all sizes nodes
      small-regions no_nodes at t k l = omega arith
      small-regions (and n nodes) at t k l =
          let ha = small-region n at t.0 (all-left IsKnown (calls_in n) (calls_in_all nodes) k) l.0 in
          let hb = small-regions nodes (at + size writing n) t.1 (all-right IsKnown (calls_in n) (calls_in_all nodes) k) l.1 in
          omega (arith, ha, hb)

    -- ---- codes

    abbrev T : Node → ℕ → ℕ → Code
    T = thread_code writing numbers routines

    abbrev Ts : Nodes → ℕ → ℕ → Code
    Ts = thread_codes writing numbers routines

    mutual
      code-entry : (n : Node) (child at : ℕ) → entry (T n child at) ≡ at
      code-entry (straight steps) child at = refl
      code-entry (sequence nodes) child at = codes-entry nodes child at
      code-entry (branch test a b) child at = refl
      code-entry (turns None body) child at = code-entry body child (at + 0) ∙ omega arith
      code-entry (turns (Some test) body) child at = refl
      code-entry (bounded most test body) child at = region-from (bounded most test body) at
      code-entry (call f) child at = refl
      code-entry (pause i) child at = refl
      code-entry (fork i fs) child at = refl
      code-entry (guard j body) child at = refl

      codes-entry : (nodes : Nodes) (child at : ℕ) → entry (Ts nodes child at) ≡ at
      codes-entry no_nodes child at = refl
      codes-entry (and n nodes) child at = code-entry n child at

    module _ (worth : ℕ → ℕ) (s : ℕ) where
      mutual
        pub small-code : (n : Node) (child at : ℕ) (stack : List ℕ) → IsTurning n → AllByRecursion IsKnown (calls_in n) → IsLaidIn image s stack (T n child at) →
            way_most image worth (T n child at) ≤ 255 * span sizes n + total worth child (length (threads_of n))
        small-code (straight steps) child at stack t k l = let h = small-region (straight steps) at t k l.0 in omega (arith, h)
        small-code (sequence nodes) child at stack t k l = small-codes nodes child at stack t k l
        small-code (branch test a b) child at stack t k l =
            let x = at + test_size writing test in
            let y = at + test_size writing test + size writing a + 2 in
            let ha = small-code a child x stack t.0 (all-left IsKnown (calls_in a) (calls_in b) k) l.3 in
            let hb = small-code b (child + length (threads_of a)) y stack t.1 (all-right IsKnown (calls_in a) (calls_in b) k) l.6 in
            let e = code-entry a child x in
            let w = tests test in
            let j = l.5 in
            let d = behind-two (exit (T a child x)) in
            let g = threads-split worth child (threads_of a) (threads_of b) in
            omega (arith, ha, hb, e, w, j, d, g)
        small-code (turns None body) child at stack t k l =
            let x = at + 0 in
            let h = small-code body child x stack t k l.0 in
            let j = l.2 in
            let d = behind-two (exit (T body child x)) in
            omega (arith, h, j, d)
        small-code (turns (Some test) body) child at stack t k l =
            let x = at + test_size writing test in
            let h = small-code body child x stack t k l.3 in
            let e = code-entry body child x in
            let w = tests test in
            let j = l.5 in
            let d = behind-two (exit (T body child x)) in
            omega (arith, h, e, w, j, d)
        small-code (bounded most test body) child at stack t k l = let h = small-region (bounded most test body) at t k l.0 in omega (arith, h)
        small-code (call f) child at stack t k l = let h = small-region (call f) at t k l.0 in omega (arith, h)
        small-code (pause i) child at stack t k l = omega arith
        small-code (fork i fs) child at stack t k l = omega arith
        small-code (guard j body) child at stack t k l = let h = small-code body child (at + 1) (stack ++ j ∷ []) t k l.4 in omega (arith, h)

        small-codes : (nodes : Nodes) (child at : ℕ) (stack : List ℕ) → AreTurning nodes → AllByRecursion IsKnown (calls_in_all nodes) → IsLaidIn image s stack (Ts nodes child at) →
            way_most image worth (Ts nodes child at) ≤ 255 * span_all sizes nodes + total worth child (length (threads_of_all nodes))
        small-codes no_nodes child at stack t k l = omega arith
        small-codes (and n nodes) child at stack t k l =
            let ha = small-code n child at stack t.0 (all-left IsKnown (calls_in n) (calls_in_all nodes) k) l.0 in
            let hb = small-codes nodes (child + length (threads_of n)) (at + size writing n) stack t.1 (all-right IsKnown (calls_in n) (calls_in_all nodes) k) l.1 in
            let g = threads-split worth child (threads_of n) (threads_of_all nodes) in
            omega (arith, ha, hb, g)
