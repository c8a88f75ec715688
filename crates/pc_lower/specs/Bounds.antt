-- Simple bounds of how many steps what is left of a node takes.
use Rattle.std.specs.Prelude.{ℕ, ◌+◌, ◌*◌, max, List}
use Rattle.pc_lower.specs.Flow.{Node, Nodes, straight, sequence, branch, turns, bounded, call, pause, fork, guard, no_nodes, and, Rest}
use Rattle.pc_lower.specs.Residuals.{Of, OfAll, of_list, of_first, of_second, of_turns, of_pause, of_guard, of_fork, of_last, of_head, of_tail}
use Rattle.pc_lower.specs.StepCounts.{Sizes, total_of, total, option_words, through, through_all, all_in}

module _ (sizes : Sizes) where
  -- the words of a node, each once, and the steps of what it calls, repeats and starts
  abbrev mutual
    pub span : Node → ℕ
    span (straight steps) = sizes.words steps
    span (sequence nodes) = span_all nodes
    span (branch test a b) = sizes.test_words test + max (span a + 2) (span b)
    span (turns test body) = option_words sizes test + span body + 2
    span (bounded n test body) = n * (option_words sizes test + through sizes body + 3) + (option_words sizes test + 4)
    span (call f) = 1 + sizes.routines f
    span (pause i) = 1
    span (fork i fs) = 1 + total sizes fs
    span (guard j body) = span body + 2

    pub span_all : Nodes → ℕ
    span_all no_nodes = 0
    span_all (and n nodes) = span n + span_all nodes

  module _ (bodies : List Node) where
    -- what stands behind the pause or the group that is left: the steps to the node's end
    abbrev mutual
      pub tail_in : (n : Node) (r : Rest) → Of bodies n r → ℕ
      tail_in n r (of_list {nodes = nodes} {r = q} o) = tail_in_all nodes q o
      tail_in n r (of_first {a = a} {r = q} o) = tail_in a q o + 2
      tail_in n r (of_second {b = b} {r = q} o) = tail_in b q o
      tail_in n r (of_turns {test = test} {body = body} {r = q} o) = tail_in body q o + 2 + option_words sizes test
      tail_in n r (of_pause {i = i}) = 0
      tail_in n r (of_guard {body = body} {r = q} o) = tail_in body q o + 1
      tail_in n r (of_fork {fs = fs} {rs = rs} o some) = 0

      pub tail_in_all : (nodes : Nodes) (r : Rest) → OfAll bodies nodes r → ℕ
      tail_in_all nodes r (of_last {n = n} {r = q} o) = tail_in n q o
      tail_in_all nodes r (of_head {n = n} {m = m} {nodes = more} {r = q} o) = tail_in n q o + through_all sizes (and m more)
      tail_in_all nodes r (of_tail {nodes = more} {r = q} o) = tail_in_all more q o

    -- how many aborts are round it
    abbrev mutual
      pub guards_in : (n : Node) (r : Rest) → Of bodies n r → ℕ
      guards_in n r (of_list {nodes = nodes} {r = q} o) = guards_in_all nodes q o
      guards_in n r (of_first {a = a} {r = q} o) = guards_in a q o
      guards_in n r (of_second {b = b} {r = q} o) = guards_in b q o
      guards_in n r (of_turns {body = body} {r = q} o) = guards_in body q o
      guards_in n r (of_pause {i = i}) = 0
      guards_in n r (of_guard {body = body} {r = q} o) = guards_in body q o + 1
      guards_in n r (of_fork {fs = fs} {rs = rs} o some) = 0

      pub guards_in_all : (nodes : Nodes) (r : Rest) → OfAll bodies nodes r → ℕ
      guards_in_all nodes r (of_last {n = n} {r = q} o) = guards_in n q o
      guards_in_all nodes r (of_head {n = n} {r = q} o) = guards_in n q o
      guards_in_all nodes r (of_tail {nodes = more} {r = q} o) = guards_in_all more q o

    -- what the threads of its group take
    abbrev mutual
      pub beside_in : (n : Node) (r : Rest) → Of bodies n r → ℕ
      beside_in n r (of_list {nodes = nodes} {r = q} o) = beside_in_all nodes q o
      beside_in n r (of_first {a = a} {r = q} o) = beside_in a q o
      beside_in n r (of_second {b = b} {r = q} o) = beside_in b q o
      beside_in n r (of_turns {body = body} {r = q} o) = beside_in body q o
      beside_in n r (of_pause {i = i}) = 0
      beside_in n r (of_guard {body = body} {r = q} o) = beside_in body q o
      beside_in n r (of_fork {fs = fs} {rs = rs} o some) = all_in sizes bodies fs rs o

      pub beside_in_all : (nodes : Nodes) (r : Rest) → OfAll bodies nodes r → ℕ
      beside_in_all nodes r (of_last {n = n} {r = q} o) = beside_in n q o
      beside_in_all nodes r (of_head {n = n} {r = q} o) = beside_in n q o
      beside_in_all nodes r (of_tail {nodes = more} {r = q} o) = beside_in_all more q o

-- how deep aborts stand in a node
abbrev mutual
  pub depth : Node → ℕ
  depth (straight steps) = 0
  depth (sequence nodes) = depth_all nodes
  depth (branch test a b) = max (depth a) (depth b)
  depth (turns test body) = depth body
  depth (bounded n test body) = 0
  depth (call f) = 0
  depth (pause i) = 0
  depth (fork i fs) = 0
  depth (guard j body) = depth body + 1

  pub depth_all : Nodes → ℕ
  depth_all no_nodes = 0
  depth_all (and n nodes) = max (depth n) (depth_all nodes)

-- what the threads of a node's fork take, where each takes so much
module _ (worst : ℕ → ℕ) where
  abbrev mutual
    pub forks_in : Node → ℕ
    forks_in (straight steps) = 0
    forks_in (sequence nodes) = forks_in_all nodes
    forks_in (branch test a b) = max (forks_in a) (forks_in b)
    forks_in (turns test body) = forks_in body
    forks_in (bounded n test body) = 0
    forks_in (call f) = 0
    forks_in (pause i) = 0
    forks_in (fork i fs) = total_of worst fs
    forks_in (guard j body) = forks_in body

    pub forks_in_all : Nodes → ℕ
    forks_in_all no_nodes = 0
    forks_in_all (and n nodes) = max (forks_in n) (forks_in_all nodes)
