-- How many temporaries a flow uses, and so where its words stand.
use Rattle.std.specs.Prelude.{ℕ, ◌+◌, max, Bool, List, [], ◌∷◌, length, Option, Some, None}
use Rattle.pc_lower.specs.declared.nodes.Place.{Place}
use Rattle.pc_lower.specs.declared.nodes.Place.TheVariants.{Temp as temp, Held as held}
use Rattle.pc_lower.specs.declared.nodes.Step.{Step}
use Rattle.pc_lower.specs.declared.nodes.Step.TheVariants.{Const as const, Load as load, Save as save, Unary as unary_step, Binary as binary_step, TakeElement as take_element, PutElement as put_element, Move as move}
use Rattle.pc_lower.specs.declared.nodes.Test.{Test}
use Rattle.pc_lower.specs.Flow.{Node, Nodes, straight, sequence, branch, turns, bounded, call, pause, fork, guard, no_nodes, and, Flow}
use Rattle.pc_regs.specs.declared.placement.Placement.{Placement}

-- temporaries are used from 0 on, and up to this one
abbrev pub used_by_place : Place → ℕ
used_by_place (temp k) = k + 1
used_by_place (held h) = 0

abbrev pub used_by_step : Step → ℕ
used_by_step (const to n) = used_by_place to
used_by_step (load to word) = used_by_place to
used_by_step (save word by) = used_by_place by
used_by_step (unary_step op to by) = max (used_by_place to) (used_by_place by)
used_by_step (binary_step op to left right) = max (used_by_place to) (max (used_by_place left) (used_by_place right))
used_by_step (take_element to first size index) = max (used_by_place to) (used_by_place index)
used_by_step (put_element first size index by) = max (used_by_place index) (used_by_place by)
used_by_step (move to by) = max (used_by_place to) (used_by_place by)

abbrev pub used_by_steps : List Step → ℕ
used_by_steps [] = 0
used_by_steps (s ∷ steps) = max (used_by_step s) (used_by_steps steps)

abbrev pub used_by_test : Test → ℕ
used_by_test t = max (used_by_steps t.steps) (used_by_place t.by)

abbrev pub used_by_option : Option Test → ℕ
used_by_option None = 0
used_by_option (Some t) = used_by_test t

abbrev mutual
  pub used_by : Node → ℕ
  used_by (straight steps) = used_by_steps steps
  used_by (sequence nodes) = used_by_all nodes
  used_by (branch test first second) = max (used_by_test test) (max (used_by first) (used_by second))
  used_by (turns test body) = max (used_by_option test) (used_by body)
  used_by (bounded most test body) = max (used_by_option test) (used_by body)
  used_by (call f) = 0
  used_by (pause i) = 0
  used_by (fork i threads) = 0
  used_by (guard j body) = used_by body

  pub used_by_all : Nodes → ℕ
  used_by_all no_nodes = 0
  used_by_all (and n nodes) = max (used_by n) (used_by_all nodes)

abbrev pub used_by_bodies : List Node → ℕ
used_by_bodies [] = 0
used_by_bodies (n ∷ bodies) = max (used_by n) (used_by_bodies bodies)

abbrev pub used_by_aborts : List (Bool × Test) → ℕ
used_by_aborts [] = 0
used_by_aborts (a ∷ aborts) = max (used_by_test a.1) (used_by_aborts aborts)

-- there is room for so many cells and temporaries; no flow holds words
abbrev pub with_temporaries : (cells temporaries : ℕ) → Placement
with_temporaries cells temporaries = record { cells = cells; temporaries = temporaries; held = 0 }

-- for the declared words and the temporaries that are used
abbrev pub placement_of : Flow → Placement
placement_of f = with_temporaries (length f.declared) (max (used_by_bodies f.bodies) (used_by_aborts f.aborts))
