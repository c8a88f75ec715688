-- The sizes of functions count what these take.
use Rattle.std.proofs.Common.{◌≡◌, ℕ, zero, suc, ◌+◌, ◌*◌, ◌<◌, List, [], ◌∷◌, Some, None, refl, ap, arith}
use Rattle.std.specs.List.{AllByRecursion}
use Rattle.pc_lower.specs.declared.nodes.Step.{Step}
use Rattle.pc_lower.specs.declared.nodes.Test.{Test}
use Rattle.pc_lower.specs.Flow.{Node, Nodes, straight, sequence, branch, turns, bounded, call, pause, fork, guard, no_nodes, and}
use Rattle.pc_lower.specs.Residuals.{body_at}
use Rattle.pc_lower.specs.StepCounts.{Sizes, total_of, through, through_all}
use Rattle.pc_lower.specs.Program.{IsEarlier, AreEarlier, InOrder}
use Rattle.pc_lower.specs.Bounds.{span, span_all}
use Rattle.pc_lower.specs.Sizing.{sizes_to, sizes_of, Count}
use Rattle.pc_lower.proofs.Earlier.{earlier}
use Rattle.pc_lower.proofs.Bounds.{through-span, reach-span}

module _ (words : List Step → ℕ) (test_words : Test → ℕ) where
  abbrev sizes_with : (threads routines : ℕ → ℕ) → Sizes
  sizes_with threads routines = record { words = words; test_words = test_words; threads = threads; routines = routines }

  -- the same sizes of functions below a number, the same count
  module _ (t r t' r' : ℕ → ℕ) (below : ℕ) (same : (f : ℕ) → f < below → (t f ≡ t' f) × (r f ≡ r' f)) where
    total-same : (fs : List ℕ) → AllByRecursion (λ f. f < below) fs → total_of t fs ≡ total_of t' fs
    total-same [] lt = refl
    total-same (f ∷ fs) lt = let a = same f lt.0 in let b = total-same fs lt.1 in omega (arith, a.0, b)

    mutual
      through-same : (n : Node) → IsEarlier below n → through (sizes_with t r) n ≡ through (sizes_with t' r') n
      through-same (straight steps) early = refl
      through-same (sequence nodes) early = through-same-all nodes early
      through-same (branch test a b) early = let x = through-same a early.0 in let y = through-same b early.1 in omega (arith, x, y)
      through-same (turns None body) early = refl
      through-same (turns (Some test) body) early = refl
      through-same (bounded n None body) early = ap (λ k. n * (0 + k + 3) + (0 + 4)) (through-same body early)
      through-same (bounded n (Some test) body) early = ap (λ k. n * (test_words test + k + 3) + (test_words test + 4)) (through-same body early)
      through-same (call f) early = let x = same f early in omega (arith, x.1)
      through-same (pause i) early = refl
      through-same (fork i fs) early = let x = total-same fs early in omega (arith, x)
      through-same (guard j body) early = let x = through-same body early in omega (arith, x)

      through-same-all : (nodes : Nodes) → AreEarlier below nodes → through_all (sizes_with t r) nodes ≡ through_all (sizes_with t' r') nodes
      through-same-all no_nodes early = refl
      through-same-all (and n nodes) early = let x = through-same n early.0 in let y = through-same-all nodes early.1 in omega (arith, x, y)

    mutual
      span-same : (n : Node) → IsEarlier below n → span (sizes_with t r) n ≡ span (sizes_with t' r') n
      span-same (straight steps) early = refl
      span-same (sequence nodes) early = span-same-all nodes early
      span-same (branch test a b) early = let x = span-same a early.0 in let y = span-same b early.1 in omega (arith, x, y)
      span-same (turns None body) early = let x = span-same body early in omega (arith, x)
      span-same (turns (Some test) body) early = let x = span-same body early in omega (arith, x)
      span-same (bounded n None body) early = ap (λ k. n * (0 + k + 3) + (0 + 4)) (through-same body early)
      span-same (bounded n (Some test) body) early = ap (λ k. n * (test_words test + k + 3) + (test_words test + 4)) (through-same body early)
      span-same (call f) early = let x = same f early in omega (arith, x.1)
      span-same (pause i) early = refl
      span-same (fork i fs) early = let x = total-same fs early in omega (arith, x)
      span-same (guard j body) early = let x = span-same body early in omega (arith, x)

      span-same-all : (nodes : Nodes) → AreEarlier below nodes → span_all (sizes_with t r) nodes ≡ span_all (sizes_with t' r') nodes
      span-same-all no_nodes early = refl
      span-same-all (and n nodes) early = let x = span-same n early.0 in let y = span-same-all nodes early.1 in omega (arith, x, y)

  module _ (bodies : List Node) (order : InOrder 0 bodies) where
    abbrev to : ℕ → Sizes
    to n = sizes_to words test_words bodies n

    -- the threads and routines at fuel are those of sizes
    abbrev whole : Sizes
    whole = sizes_of words test_words bodies

    -- enough is enough
    stable : (n m f : ℕ) → f < n → f < m → ((to n).threads f ≡ (to m).threads f) × ((to n).routines f ≡ (to m).routines f)
    stable zero m f lt lt' = absurd (omega (arith, lt))
    stable (suc n) zero f lt lt' = absurd (omega (arith, lt'))
    stable (suc n) (suc m) f lt lt' =
        let same : (g : ℕ) → g < f → ((to n).threads g ≡ (to m).threads g) × ((to n).routines g ≡ (to m).routines g) = λ g less. stable n m g (omega (arith, less, lt)) (omega (arith, less, lt')) in
        let e = earlier bodies order f in (
          ap (λ k. k + 1) (span-is n m f same e),
          ap (λ k. k + 1) (through-is n m f same e),
        )
      where
        span-is : (n m f : ℕ) → ((g : ℕ) → g < f → ((to n).threads g ≡ (to m).threads g) × ((to n).routines g ≡ (to m).routines g)) → IsEarlier f (body_at bodies f) → span (to n) (body_at bodies f) ≡ span (to m) (body_at bodies f)
        span-is zero zero f same e = refl
        span-is zero (suc m) f same e = span-same (to zero).threads (to zero).routines (to (suc m)).threads (to (suc m)).routines f same (body_at bodies f) e
        span-is (suc n) zero f same e = span-same (to (suc n)).threads (to (suc n)).routines (to zero).threads (to zero).routines f same (body_at bodies f) e
        span-is (suc n) (suc m) f same e = span-same (to (suc n)).threads (to (suc n)).routines (to (suc m)).threads (to (suc m)).routines f same (body_at bodies f) e

        through-is : (n m f : ℕ) → ((g : ℕ) → g < f → ((to n).threads g ≡ (to m).threads g) × ((to n).routines g ≡ (to m).routines g)) → IsEarlier f (body_at bodies f) → through (to n) (body_at bodies f) ≡ through (to m) (body_at bodies f)
        through-is zero zero f same e = refl
        through-is zero (suc m) f same e = through-same (to zero).threads (to zero).routines (to (suc m)).threads (to (suc m)).routines f same (body_at bodies f) e
        through-is (suc n) zero f same e = through-same (to (suc n)).threads (to (suc n)).routines (to zero).threads (to zero).routines f same (body_at bodies f) e
        through-is (suc n) (suc m) f same e = through-same (to (suc n)).threads (to (suc n)).routines (to (suc m)).threads (to (suc m)).routines f same (body_at bodies f) e

    -- the sizes agree with those at a number, below it
    whole-is : (f g : ℕ) → g < f → (whole.threads g ≡ (to f).threads g) × (whole.routines g ≡ (to f).routines g)
    whole-is f g less = stable (suc g) f g (omega arith) less

    pub counts : (f : ℕ) → Count whole bodies f
    counts f =
        let e = earlier bodies order f in
        let a = by f f (whole-is f) e in
        let t = through-span whole (body_at bodies f) in
        let r = reach-span whole (body_at bodies f) in
        record {
          through_bound = omega (arith, a.0, t);
          reach_bound = omega (arith, a.0, r);
          routine_bound = omega (arith, a.1);
          exact = omega (arith, a.0);
        }
      where
        by : (n f : ℕ) → ((g : ℕ) → g < f → (whole.threads g ≡ (to n).threads g) × (whole.routines g ≡ (to n).routines g)) → IsEarlier f (body_at bodies f) →
            (span whole (body_at bodies f) ≡ span (to n) (body_at bodies f)) × (through whole (body_at bodies f) ≡ through (to n) (body_at bodies f))
        by zero f same e = (
          span-same whole.threads whole.routines (to zero).threads (to zero).routines f same (body_at bodies f) e,
          through-same whole.threads whole.routines (to zero).threads (to zero).routines f same (body_at bodies f) e,
        )
        by (suc n) f same e = (
          span-same whole.threads whole.routines (to (suc n)).threads (to (suc n)).routines f same (body_at bodies f) e,
          through-same whole.threads whole.routines (to (suc n)).threads (to (suc n)).routines f same (body_at bodies f) e,
        )
