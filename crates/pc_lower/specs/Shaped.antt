-- What the shape of a flow's functions says: which come to their end in the tick of their start, that loops without a number of turns
-- are left by their tests alone, and that bounded loops don't stand too deep in one another.
use Rattle.std.specs.Prelude.{◌≡◌, ℕ, ◌+◌, ◌<◌, ◌≤◌, ◌&&◌, ◌||◌, max, Bool, true, false, IsTrue, length, Option, Some, None}
use Rattle.std.specs.List.{list_all}
use Rattle.pc_lower.specs.declared.nodes.Test.{Test}
use Rattle.pc_lower.specs.Flow.{Node, Nodes, straight, sequence, branch, turns, bounded, call, pause, fork, guard, no_nodes, and, Flow}
use Rattle.pc_lower.specs.Residuals.{body_at}
use Rattle.pc_lower.specs.Laid.{Placing}

-- a loop without a number of turns is left where its test doesn't hold
abbrev pub is_tested : Option Test → Bool
is_tested None = false
is_tested (Some test) = true

-- which functions can end in the tick in which they start
module _ (ends : ℕ → Bool) where
  -- a node can come from its beginning to its end within a tick
  abbrev mutual
    pub can_end : Node → Bool
    can_end (straight steps) = true
    can_end (sequence nodes) = can_all_end nodes
    can_end (branch test a b) = can_end a || can_end b
    can_end (turns test body) = is_tested test
    can_end (bounded n test body) = true
    can_end (call f) = true
    can_end (pause i) = false
    can_end (fork i fs) = list_all ends fs
    can_end (guard j body) = can_end body

    pub can_all_end : Nodes → Bool
    can_all_end no_nodes = true
    can_all_end (and n nodes) = can_end n && can_all_end nodes

  -- the body of a loop without a number of turns can't; a bounded one has a turn
  abbrev mutual
    pub IsLasting : Node → Type 0
    IsLasting (straight steps) = Unit {0}
    IsLasting (sequence nodes) = AreLasting nodes
    IsLasting (branch test a b) = IsLasting a × IsLasting b
    IsLasting (turns test body) = IsLasting body × (can_end body ≡ false)
    IsLasting (bounded n test body) = (1 ≤ n) × IsLasting body
    IsLasting (call f) = Unit {0}
    IsLasting (pause i) = Unit {0}
    IsLasting (fork i fs) = Unit {0}
    IsLasting (guard j body) = IsLasting body

    pub AreLasting : Nodes → Type 0
    AreLasting no_nodes = Unit {0}
    AreLasting (and n nodes) = IsLasting n × AreLasting nodes

-- how many bounded loops a place of a node is inside at most, those of functions that it calls not counted
abbrev mutual
  pub loops_in : Node → ℕ
  loops_in (straight steps) = 0
  loops_in (sequence nodes) = loops_in_all nodes
  loops_in (branch test a b) = max (loops_in a) (loops_in b)
  loops_in (turns test body) = loops_in body
  loops_in (bounded n test body) = loops_in body + 1
  loops_in (call f) = 0
  loops_in (pause i) = 0
  loops_in (fork i fs) = 0
  loops_in (guard j body) = loops_in body

  pub loops_in_all : Nodes → ℕ
  loops_in_all no_nodes = 0
  loops_in_all (and n nodes) = max (loops_in n) (loops_in_all nodes)

-- Of `placing` this speaks of which functions are called, and of their links and counters.
pub record IsShaped (f : Flow) (placing : Placing) : Type 0 where
  -- which functions can end in the tick in which they start
  pub ends : ℕ → Bool
  pub told : (g : ℕ) → g < length f.bodies → ends g ≡ can_end ends (body_at f.bodies g)
  pub lasts : (g : ℕ) → g < length f.bodies → IsLasting ends (body_at f.bodies g)
  pub loops : (g : ℕ) → g < length f.bodies → loops_in (body_at f.bodies g) ≤ 8
  -- a function that is called has room for the link of its call
  pub low : (g : ℕ) → IsTrue (placing.called g) → (placing.links g + 1 ≤ 16) × (placing.counters g ≤ 136)
