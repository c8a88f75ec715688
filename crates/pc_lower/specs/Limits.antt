-- When no tick of an image is charged more than 1,000,000,000,000.
use Rattle.std.specs.Prelude.{ℕ, zero, suc, ◌+◌, ◌<◌, ◌≤◌, ◌==◌, ◌++◌, if◌then◌else◌, length, List, [], ◌∷◌}
use Rattle.pt_image.specs.declared.Parts.{Parts}
use Rattle.pc_lower.specs.Flow.{Node, Nodes, straight, sequence, branch, turns, bounded, call, pause, fork, guard, no_nodes, and, Flow}
use Rattle.pc_lower.specs.Residuals.{body_at}
use Rattle.pc_lower.specs.StepCounts.{Sizes, total_of}
use Rattle.pc_lower.specs.Bounds.{span}
use Rattle.pc_lower.specs.Words.{Writing}
use Rattle.pc_lower.specs.Image.{condition_words}

-- the threads that the forks of a node start, in the order of the text
abbrev mutual
  pub threads_of : Node → List ℕ
  threads_of (straight steps) = []
  threads_of (sequence nodes) = threads_of_all nodes
  threads_of (branch test a b) = threads_of a ++ threads_of b
  threads_of (turns test body) = threads_of body
  threads_of (bounded n test body) = []
  threads_of (call f) = []
  threads_of (pause i) = []
  threads_of (fork i fs) = fs
  threads_of (guard j body) = threads_of body

  pub threads_of_all : Nodes → List ℕ
  threads_of_all no_nodes = []
  threads_of_all (and n nodes) = threads_of n ++ threads_of_all nodes

-- those that a function starts
abbrev pub started_by : List Node → ℕ → List ℕ
started_by bodies f = threads_of (body_at bodies f)

-- how often a number stands in a list
abbrev pub times_in : ℕ → List ℕ → ℕ
times_in q [] = 0
times_in q (x ∷ xs) = (if q == x then 1 else 0) + times_in q xs

module _ (started : ℕ → List ℕ) where
  -- how often the functions below a number start a function
  abbrev pub times_below : (q n : ℕ) → ℕ
  times_below q zero = 0
  times_below q (suc n) = times_below q n + times_in q (started n)

  -- the sum over all that they start
  abbrev pub sum_below : (ℕ → ℕ) → ℕ → ℕ
  sum_below worth zero = 0
  sum_below worth (suc n) = sum_below worth n + total_of worth (started n)

-- the same sizes, but that threads take nothing: what a function takes apart from the threads that it starts
abbrev pub without_threads : Sizes → Sizes
without_threads sizes = record sizes { threads = λ f. 0 }

abbrev pub passage : Sizes → List Node → ℕ → ℕ
passage sizes bodies f = span (without_threads sizes) (body_at bodies f) + 1

-- What the limits of the language give: each thread is started in one place, there are 64 at most, their passages are 2,000,000
-- words at most in all, and a condition has 60,002 at most; there are 64 inputs and 64 outputs at most; the sizes of threads are
-- no greater than need be.
pub record IsWithinLimits (image : Parts) (f : Flow) (writing : Writing) (sizes : Sizes) : Type 0 where
  pub main_is : f.main < length f.bodies
  pub once : (q : ℕ) → times_in q (f.main ∷ []) + times_below (started_by f.bodies) q (length f.bodies) ≤ 1
  pub few : 1 + sum_below (started_by f.bodies) (λ g. 1) (length f.bodies) ≤ 64
  pub passages : passage sizes f.bodies f.main + sum_below (started_by f.bodies) (passage sizes f.bodies) (length f.bodies) ≤ 2000000
  pub conditions : (j : ℕ) → condition_words writing f j ≤ 60002
  pub ports : length image.inputs + length image.outputs ≤ 128
  pub exact : (g : ℕ) → sizes.threads g ≤ span sizes (body_at f.bodies g) + 1
