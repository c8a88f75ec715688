-- The counts of a residual are within simple bounds.
use Rattle.std.proofs.Common.{ℕ, ◌+◌, ◌*◌, ◌≤◌, List, mul-le-mul_right, arith}
use Rattle.pc_lower.specs.Flow.{Node, Nodes, straight, sequence, branch, turns, bounded, call, pause, fork, guard, no_nodes, and, Rest, Rests}
use Rattle.pc_lower.specs.Residuals.{body_at, Of, OfAll, OfThreads, of_list, of_first, of_second, of_turns, of_pause, of_guard, of_fork, of_last, of_head, of_tail, of_nobody, of_over, of_going}
use Rattle.pc_lower.specs.StepCounts.{Sizes, total_of, through, through_all, reach, reach_all, done_in, rest_in, done_in_all, rest_in_all, all_in, tick_in}
use Rattle.pc_lower.specs.Bounds.{span, span_all, tail_in, tail_in_all, guards_in, guards_in_all, beside_in, beside_in_all, depth, depth_all, forks_in, forks_in_all}

module _ (sizes : Sizes) (bodies : List Node) (most : ℕ) where
  pub record Bounded (done rest tail guards beside : ℕ) : Type 0 where
    pub done_le : done ≤ tail + guards * most + beside
    pub rest_le : rest ≤ tail + (guards * most + most) + beside

  mutual
    pub bounds : (n : Node) (r : Rest) (o : Of bodies n r) → reach sizes n ≤ most → Bounded (done_in sizes bodies n r o) (rest_in sizes bodies n r o) (tail_in sizes bodies n r o) (guards_in sizes bodies n r o) (beside_in sizes bodies n r o)
    bounds n r (of_list {nodes = nodes} {r = q} o) le = bounds_all nodes q o le
    bounds n r (of_first {a = a} {r = q} o) le =
        let h = bounds a q o (omega arith) in
        record { done_le = omega arith; rest_le = omega arith }
    bounds n r (of_second {b = b} {r = q} o) le = bounds b q o (omega arith)
    bounds n r (of_turns {test = test} {body = body} {r = q} o) le =
        let h = bounds body q o (omega arith) in
        record { done_le = omega arith; rest_le = omega arith }
    bounds n r (of_pause {i = i}) le = record { done_le = omega arith; rest_le = omega arith }
    bounds n r (of_guard {body = body} {r = q} o) le =
        let h = bounds body q o (omega arith) in
        record { done_le = omega arith; rest_le = omega arith }
    bounds n r (of_fork {fs = fs} {rs = rs} o some) le = record { done_le = omega arith; rest_le = omega arith }

    pub bounds_all : (nodes : Nodes) (r : Rest) (o : OfAll bodies nodes r) → reach_all sizes nodes ≤ most → Bounded (done_in_all sizes bodies nodes r o) (rest_in_all sizes bodies nodes r o) (tail_in_all sizes bodies nodes r o) (guards_in_all sizes bodies nodes r o) (beside_in_all sizes bodies nodes r o)
    bounds_all nodes r (of_last {n = n} {r = q} o) le = bounds n q o (omega arith)
    bounds_all nodes r (of_head {n = n} {m = m} {nodes = more} {r = q} o) le =
        let h = bounds n q o (omega arith) in
        record { done_le = omega arith; rest_le = omega arith }
    bounds_all nodes r (of_tail {nodes = more} {r = q} o) le = bounds_all more q o (omega arith)

times : (a b m : ℕ) → a ≤ b → a * m ≤ b * m
times a b m le = mul-le-mul_right m le

module _ (sizes : Sizes) where
  mutual
    pub through-span : (n : Node) → through sizes n ≤ span sizes n
    through-span (straight p) = omega arith
    through-span (sequence nodes) = through_all-span nodes
    through-span (branch t a b) = omega (arith, through-span a, through-span b)
    through-span (turns test body) = omega arith
    through-span (bounded n test body) = omega arith
    through-span (call f) = omega arith
    through-span (pause i) = omega arith
    through-span (guard j body) = omega (arith, through-span body)
    through-span (fork i fs) = omega arith

    through_all-span : (nodes : Nodes) → through_all sizes nodes ≤ span_all sizes nodes
    through_all-span no_nodes = omega arith
    through_all-span (and n nodes) = omega (arith, through-span n, through_all-span nodes)

module _ (sizes : Sizes) (worst : ℕ → ℕ) (bodies : List Node)
    (wide : (f : ℕ) → span sizes (body_at bodies f) + (depth (body_at bodies f) * reach sizes (body_at bodies f) + reach sizes (body_at bodies f)) + forks_in worst (body_at bodies f) + 1 ≤ worst f) where
  record Small (tail guards beside u v w : ℕ) : Type 0 where
    tail_le : tail ≤ u
    guards_le : guards ≤ v
    beside_le : beside ≤ w

  worst_by : (f : ℕ) (r : Rest) (o : Of bodies (body_at bodies f) r) → Small (tail_in sizes bodies (body_at bodies f) r o) (guards_in sizes bodies (body_at bodies f) r o) (beside_in sizes bodies (body_at bodies f) r o) (span sizes (body_at bodies f)) (depth (body_at bodies f)) (forks_in worst (body_at bodies f)) →
      tick_in sizes bodies (body_at bodies f) r o ≤ worst f
  worst_by f r o h =
      let b = bounds sizes bodies (reach sizes (body_at bodies f)) (body_at bodies f) r o (omega arith) in
      let g = times (guards_in sizes bodies (body_at bodies f) r o) (depth (body_at bodies f)) (reach sizes (body_at bodies f)) h.guards_le in
      omega (arith, wide f)

  mutual
    small : (n : Node) (r : Rest) (o : Of bodies n r) → Small (tail_in sizes bodies n r o) (guards_in sizes bodies n r o) (beside_in sizes bodies n r o) (span sizes n) (depth n) (forks_in worst n)
    small n r (of_list {nodes = nodes} {r = q} o) = small_all nodes q o
    small n r (of_first {a = a} {r = q} o) = let h = small a q o in record { tail_le = omega arith; guards_le = omega arith; beside_le = omega arith }
    small n r (of_second {b = b} {r = q} o) = let h = small b q o in record { tail_le = omega arith; guards_le = omega arith; beside_le = omega arith }
    small n r (of_turns {test = test} {body = body} {r = q} o) = let h = small body q o in record { tail_le = omega arith; guards_le = omega arith; beside_le = omega arith }
    small n r (of_pause {i = i}) = record { tail_le = omega arith; guards_le = omega arith; beside_le = omega arith }
    small n r (of_guard {body = body} {r = q} o) = let h = small body q o in record { tail_le = omega arith; guards_le = omega arith; beside_le = omega arith }
    small n r (of_fork {fs = fs} {rs = rs} o some) = let h = small_threads fs rs o in record { tail_le = omega arith; guards_le = omega arith; beside_le = h }

    small_all : (nodes : Nodes) (r : Rest) (o : OfAll bodies nodes r) → Small (tail_in_all sizes bodies nodes r o) (guards_in_all sizes bodies nodes r o) (beside_in_all sizes bodies nodes r o) (span_all sizes nodes) (depth_all nodes) (forks_in_all worst nodes)
    small_all nodes r (of_last {n = n} {r = q} o) = let h = small n q o in record { tail_le = omega arith; guards_le = omega arith; beside_le = omega arith }
    small_all nodes r (of_head {n = n} {m = m} {nodes = more} {r = q} o) =
        let h = small n q o in
        let t = through_all-span sizes (and m more) in
        record { tail_le = omega arith; guards_le = omega arith; beside_le = omega arith }
    small_all nodes r (of_tail {nodes = more} {r = q} o) = let h = small_all more q o in record { tail_le = omega arith; guards_le = omega arith; beside_le = omega arith }

    small_threads : (fs : List ℕ) (rs : Rests) (o : OfThreads bodies fs rs) → all_in sizes bodies fs rs o ≤ total_of worst fs
    small_threads fs rs of_nobody = omega arith
    small_threads fs rs (of_over {fs = gs} {rs = more} o) = omega (arith, small_threads gs more o)
    small_threads fs rs (of_going {f = f} {fs = gs} {r = q} {rs = more} o os) = omega (arith, small_threads gs more os, worst_by f q o (small (body_at bodies f) q o))

  -- a tick of a whole thread, with all that runs under it
  pub worst_is : (f : ℕ) (r : Rest) (o : Of bodies (body_at bodies f) r) → tick_in sizes bodies (body_at bodies f) r o ≤ worst f
  worst_is f r o = worst_by f r o (small (body_at bodies f) r o)

module _ (sizes : Sizes) where
  mutual
    pub reach-span : (n : Node) → reach sizes n ≤ span sizes n
    reach-span (straight p) = omega arith
    reach-span (sequence nodes) = reach_all-span nodes
    reach-span (branch test a b) = omega (arith, reach-span a, reach-span b)
    reach-span (turns test body) = omega (arith, reach-span body)
    reach-span (bounded n test body) = omega arith
    reach-span (call f) = omega arith
    reach-span (pause i) = omega arith
    reach-span (guard j body) = omega (arith, reach-span body)
    reach-span (fork i fs) = omega arith

    reach_all-span : (nodes : Nodes) → reach_all sizes nodes ≤ span_all sizes nodes
    reach_all-span no_nodes = omega arith
    reach_all-span (and n nodes) = omega (arith, reach-span n, through-span sizes n, reach_all-span nodes)
