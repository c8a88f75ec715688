-- Which function each slot of a flow runs, and which slot starts it.
use Rattle.std.specs.Prelude.{◌≡◌, ℕ, zero, suc, ◌+◌, ◌<◌, ◌≤◌, ◌++◌, length, take, replicate, slice_index_or, List, [], ◌∷◌}
use Rattle.pc_lower.specs.Flow.{Node, Flow}
use Rattle.pc_lower.specs.Slots.{AreChildren, Runs}
use Rattle.pc_lower.specs.Limits.{started_by}

module _ (bodies : List Node) where
  -- what functions start, one function after another
  abbrev pub all_started : List ℕ → List ℕ
  all_started [] = []
  all_started (f ∷ fs) = started_by bodies f ++ all_started fs

  -- so many generations: functions, what they start, what these start, and so on
  abbrev pub generations : ℕ → List ℕ → List ℕ
  generations zero fs = []
  generations (suc n) fs = fs ++ generations n (all_started fs)

  -- the slot that starts each thread, for functions that run in slots from a number on
  abbrev pub starters : ℕ → List ℕ → List ℕ
  starters c [] = []
  starters c (f ∷ fs) = replicate (length (started_by bodies f)) c ++ starters (c + 1) fs

-- Slot 0 runs `main`. In the next slots run the threads that the slots start, slot after slot in rising order, and of each slot
-- in the order of the text.
abbrev pub AreSlots : Flow → List ℕ → Type 0
AreSlots f functions = functions ≡ f.main ∷ all_started f.bodies functions

-- the functions of the slots; a function starts earlier ones alone, so there are no more generations than functions
abbrev pub slots_of : Flow → List ℕ
slots_of f = generations f.bodies (length f.bodies) (f.main ∷ [])

abbrev pub function_of : Flow → ℕ → ℕ
function_of f c = slice_index_or (slots_of f) c 0

-- the slot that starts a slot
abbrev pub parent_of : Flow → ℕ → ℕ
parent_of f c = slice_index_or (0 ∷ starters f.bodies 0 (slots_of f)) c 0

-- the first slot that a slot starts: those that lower slots start come before it
abbrev pub first_started : Flow → ℕ → ℕ
first_started f c = length (all_started f.bodies (take c (slots_of f))) + 1

-- Functions that a slot starts, one after another, are in slots of their own from a number on.
pub record HaveSlots (f : Flow) (c lo : ℕ) (functions : List ℕ) : Type 0 where
  pub within : lo + length functions ≤ length (slots_of f)
  pub children : AreChildren (parent_of f) c lo (length functions)
  pub run : Runs (function_of f) lo functions
