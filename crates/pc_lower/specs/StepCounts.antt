-- How many steps of the machine a node takes, and what is left of one.
use Rattle.std.specs.Prelude.{ℕ, ◌+◌, ◌*◌, max, List, [], ◌∷◌, Option, Some, None}
use Rattle.pc_lower.specs.declared.nodes.Step.{Step}
use Rattle.pc_lower.specs.declared.nodes.Test.{Test}
use Rattle.pc_lower.specs.Flow.{Node, Nodes, straight, sequence, branch, turns, bounded, call, pause, fork, guard, no_nodes, and, Rest, Rests}
use Rattle.pc_lower.specs.Residuals.{body_at, Of, OfAll, OfThreads, of_list, of_first, of_second, of_turns, of_pause, of_guard, of_fork, of_last, of_head, of_tail, of_nobody, of_over, of_going}

-- how many steps these take at most: the words of steps and of a test, and a function with all that it calls or starts
pub record Sizes : Type 0 where
  pub words : List Step → ℕ
  pub test_words : Test → ℕ
  pub threads : ℕ → ℕ
  pub routines : ℕ → ℕ

-- the sum over the functions of a list
abbrev pub total_of : (ℕ → ℕ) → List ℕ → ℕ
total_of worth [] = 0
total_of worth (f ∷ fs) = worth f + total_of worth fs

module _ (sizes : Sizes) where
  -- the threads of a fork
  abbrev pub total : List ℕ → ℕ
  total fs = total_of sizes.threads fs

  abbrev pub option_words : Option Test → ℕ
  option_words None = 0
  option_words (Some test) = sizes.test_words test

  -- from its start to its end within a tick
  abbrev mutual
    pub through : Node → ℕ
    through (straight steps) = sizes.words steps
    through (sequence nodes) = through_all nodes
    through (branch test a b) = sizes.test_words test + max (through a + 2) (through b)
    through (turns test body) = option_words test
    through (bounded n test body) = n * (option_words test + through body + 3) + (option_words test + 4)
    through (call f) = 1 + sizes.routines f
    through (pause i) = 0
    through (fork i fs) = 1 + total fs
    through (guard j body) = through body + 2

    pub through_all : Nodes → ℕ
    through_all no_nodes = 0
    through_all (and n nodes) = through n + through_all nodes

  -- from its start to where it rests
  abbrev mutual
    pub reach : Node → ℕ
    reach (straight steps) = 0
    reach (sequence nodes) = reach_all nodes
    reach (branch test a b) = sizes.test_words test + max (reach a) (reach b)
    reach (turns test body) = option_words test + reach body
    reach (bounded n test body) = 0
    reach (call f) = 0
    reach (pause i) = 1
    reach (fork i fs) = 1 + total fs
    reach (guard j body) = reach body + 1

    pub reach_all : Nodes → ℕ
    reach_all no_nodes = 0
    reach_all (and n nodes) = max (reach n) (through n + reach_all nodes)

  -- what is left of a node: to the node's end, and to where it rests next
  module _ (bodies : List Node) where
    abbrev mutual
      pub done_in : (n : Node) (r : Rest) → Of bodies n r → ℕ
      done_in n r (of_list {nodes = nodes} {r = q} o) = done_in_all nodes q o
      done_in n r (of_first {a = a} {r = q} o) = done_in a q o + 2
      done_in n r (of_second {b = b} {r = q} o) = done_in b q o
      done_in n r (of_turns {test = test} {body = body} {r = q} o) = done_in body q o + 2 + option_words test
      done_in n r (of_pause {i = i}) = 0
      done_in n r (of_guard {body = body} {r = q} o) = max (done_in body q o + 1) (rest_in body q o)
      done_in n r (of_fork {fs = fs} {rs = rs} o some) = all_in fs rs o

      pub rest_in : (n : Node) (r : Rest) → Of bodies n r → ℕ
      rest_in n r (of_list {nodes = nodes} {r = q} o) = rest_in_all nodes q o
      rest_in n r (of_first {a = a} {r = q} o) = rest_in a q o
      rest_in n r (of_second {b = b} {r = q} o) = rest_in b q o
      rest_in n r (of_turns {test = test} {body = body} {r = q} o) =
          max (rest_in body q o) (done_in body q o + 2 + (option_words test + reach body))
      rest_in n r (of_pause {i = i}) = 0
      rest_in n r (of_guard {body = body} {r = q} o) = rest_in body q o
      rest_in n r (of_fork {fs = fs} {rs = rs} o some) = all_in fs rs o

      pub done_in_all : (nodes : Nodes) (r : Rest) → OfAll bodies nodes r → ℕ
      done_in_all nodes r (of_last {n = n} {r = q} o) = done_in n q o
      done_in_all nodes r (of_head {n = n} {m = m} {nodes = more} {r = q} o) = done_in n q o + through_all (and m more)
      done_in_all nodes r (of_tail {nodes = more} {r = q} o) = done_in_all more q o

      pub rest_in_all : (nodes : Nodes) (r : Rest) → OfAll bodies nodes r → ℕ
      rest_in_all nodes r (of_last {n = n} {r = q} o) = rest_in n q o
      rest_in_all nodes r (of_head {n = n} {m = m} {nodes = more} {r = q} o) =
          max (rest_in n q o) (done_in n q o + reach_all (and m more))
      rest_in_all nodes r (of_tail {nodes = more} {r = q} o) = rest_in_all more q o

      -- the threads of a group
      pub all_in : (fs : List ℕ) (rs : Rests) → OfThreads bodies fs rs → ℕ
      all_in fs rs of_nobody = 0
      all_in fs rs (of_over {fs = gs} {rs = more} o) = all_in gs more o
      all_in fs rs (of_going {f = f} {fs = gs} {r = q} {rs = more} o os) =
          max (done_in (body_at bodies f) q o + 1) (rest_in (body_at bodies f) q o) + all_in gs more os

    -- a thread that goes on takes this much at most in a tick
    abbrev pub tick_in : (n : Node) (r : Rest) → Of bodies n r → ℕ
    tick_in n r o = max (done_in n r o + 1) (rest_in n r o)
