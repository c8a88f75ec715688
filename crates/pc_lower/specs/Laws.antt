-- What is proved of the meaning, and of lowering.
use Rattle.std.specs.Prelude.{◌≡◌, ℕ, ◌<◌, ℤ, Bool, List, length}
use Rattle.pc_meaning.specs.Tree.{Expression, Routine, Program}
use Rattle.pc_lower.specs.Aborts.{aborts_of}
use Rattle.pc_meaning.specs.Values.{Store}
use Rattle.pc_meaning.specs.Outcomes.{Outcome, Done, Paused, Residual}
use Rattle.pc_meaning.specs.Statements.{known_at, starts_of, resume}
use Rattle.pc_lower.specs.declared.nodes.Place.TheVariants.{Temp as temp}
use Rattle.pc_lower.specs.Flow.{State, End, Through, Halted, flow_at, flows_of, again, is_weak, fires_of}
use Rattle.pc_lower.specs.Lowered.{rest_of, flow_of}
use Rattle.pc_lower.specs.Sound.{RestFits}

-- the same end: the same store, and what is left is that of the tree
abbrev pub Same : List Routine → Outcome → End → Type 0
Same routines (Done store) (Through w) = w.store ≡ store
Same routines (Done store) (Halted q w) = ⊥
Same routines (Paused r store) (Through w) = ⊥
Same routines (Paused r store) (Halted q w) = (q ≡ rest_of routines r) × (w.store ≡ store)

-- whatever the places hold
abbrev pub SameFrom : List Routine → (Store → Outcome) → (State → End) → Type 0
SameFrom routines f g = (store : Store) (w : State) → w.store ≡ store → Same routines (f store) (g w)

-- the word is in temporary k, and those below and the store are kept
pub record Leaves (k : ℕ) (word : ℤ) (w v : State) : Type 0 where
  pub store : v.store ≡ w.store
  pub there : v.temps (temp k) ≡ word
  pub kept : (j : ℕ) → j < k → v.temps (temp j) ≡ w.temps (temp j)

-- what is left, if anything, keeps what the rules promise
abbrev pub OutcomeFits : List Routine → List (Bool × Expression) → ℕ → Outcome → Type 0
OutcomeFits routines aborts count (Done store) = Unit {0}
OutcomeFits routines aborts count (Paused r store) = RestFits routines aborts count r

-- each function, and what is left of it, does in the flow what it does in the tree
pub record IsLowered (p : Program) : Type 0 where
  pub starts : (f : ℕ) → f < length p.routines → SameFrom p.routines (known_at (starts_of p.routines) f) (flow_at (flows_of (flow_of p).bodies) f)
  pub resumes : (before : Store) (b : State) → b.store ≡ before → (r : Residual) → RestFits p.routines (aborts_of p.routines) (length p.routines) r →
      SameFrom p.routines (resume p.routines (starts_of p.routines) before r) (again (flows_of (flow_of p).bodies) (is_weak (flow_of p).aborts) (fires_of (flow_of p).aborts b) (rest_of p.routines r))
  -- the rules hold of what is left
  pub leaves : (f : ℕ) → f < length p.routines → (store : Store) → OutcomeFits p.routines (aborts_of p.routines) (length p.routines) (known_at (starts_of p.routines) f store)
  pub keeps : (before : Store) (r : Residual) → RestFits p.routines (aborts_of p.routines) (length p.routines) r → (store : Store) → OutcomeFits p.routines (aborts_of p.routines) (length p.routines) (resume p.routines (starts_of p.routines) before r store)
