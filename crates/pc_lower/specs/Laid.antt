-- Where the words of a node stand.
use Rattle.std.specs.Prelude.{◌≡◌, ℕ, ◌+◌, ◌<◌, ◌≤◌, ◌++◌, length, Bool, List, [], ◌∷◌, Option, Some, None, slice_get}
use Rattle.mb_isa.specs.declared.Instr.TheVariants.{Fork, Eot, Abrt, Leave, Call, Next, Drop}
use Rattle.pt_image.specs.declared.Parts.{Parts}
use Rattle.pc_lower.specs.declared.nodes.Step.{Step}
use Rattle.pc_lower.specs.declared.nodes.Test.{Test}
use Rattle.pc_lower.specs.Flow.{State, Node, Nodes, straight, sequence, branch, turns, bounded, call, pause, fork, guard, no_nodes, and, Rest, Through, Halted, state_of, Flows, go}
use Rattle.pc_lower.specs.Slots.{AreChildren, Runs}
use Rattle.pc_lower.specs.Places.{Has, HasJump, HasLoop}

-- what was chosen for a program beside its words
pub record Placing : Type 0 where
  -- the function that a slot runs
  pub thread : ℕ → ℕ
  -- whether a function is called, and the place where its words then begin
  pub called : ℕ → Bool
  pub entrance : ℕ → ℕ
  -- how many links and loop counters are alive at once inside it, at most
  pub links : ℕ → ℕ
  pub counters : ℕ → ℕ

module _ (known : Flows) where
  -- from its start a node never gets to its end within the tick
  abbrev pub Lasts : Node → Type 0
  Lasts n = (w : State) → (r : Rest) × (after : State) × (go known n w ≡ Halted r after)

  -- from its start it always gets to its end within the tick
  abbrev pub Passes : Node → Type 0
  Passes n = (w : State) → go known n w ≡ Through (state_of (go known n w))

module _ (parent : ℕ → ℕ) (image : Parts) (known : Flows) (weak : ℕ → Bool)
    (HasSteps : List Step → ℕ → ℕ → Type 0) (HasTest : Test → ℕ → ℕ → ℕ → Type 0) (placing : Placing) where
  -- the test of a loop goes on to `inner` where it holds, and else to `out`; without a test there are no words
  abbrev pub HasOption : Option Test → (from inner out : ℕ) → Type 0
  HasOption None from inner out = from ≡ inner
  HasOption (Some test) from inner out = HasTest test from inner out

  -- behind the jump of a bounded loop with a test its counter is dropped
  abbrev pub HasDrop : Option Test → ℕ → ℕ → Type 0
  HasDrop None at to = at ≡ to
  HasDrop (Some test) at to = Has image at Drop × (at + 1 ≡ to)

  -- an abort of this strength has its handler there
  abbrev pub HasAbort : ℕ → ℕ → Type 0
  HasAbort j to = (cond : ℕ) × (slice_get image.aborts j ≡ Some (record { weak = weak j; cond = cond; handler = to }))

  -- in slot s
  module _ (s : ℕ) where
    -- a fork of these functions starts slots of its own, which are there
    abbrev pub HasChildren : ℕ → List ℕ → Type 0
    HasChildren lo fs =
        (1 ≤ length fs) × (lo + length fs ≤ length image.slots) × AreChildren parent s lo (length fs) × Runs placing.thread lo fs

    -- a node's words stand from a place to another, inside these aborts, the outermost first
    abbrev mutual
      pub Laid : Node → List ℕ → (from to : ℕ) → Type 0
      Laid (straight steps) a from to = HasSteps steps from to
      Laid (sequence nodes) a from to = LaidAll nodes a from to
      Laid (branch test x y) a from to =
          (inner mid next : ℕ) × HasTest test from inner next × Laid x a inner mid × HasJump image mid next to × Laid y a next to
      Laid (turns test body) a from to =
          (inner mid : ℕ) × HasOption test from inner to × Laid body a inner mid × HasJump image mid to from × Lasts known body
      Laid (bounded n test body) a from to =
          (head inner mid next : ℕ) × HasLoop image n from head × Has image head (Next to) × HasOption test (head + 1) inner next
          × Laid body a inner mid × HasJump image mid next head × HasDrop test next to × Passes known body
      Laid (call f) a from to = Has image from (Call (placing.entrance f)) × (from + 1 ≡ to)
      Laid (pause i) a from to =
          Has image from Eot × (slice_get image.pauses i ≡ Some (record { at = from; slot = s; stack = a })) × (from + 1 ≡ to)
      Laid (fork i fs) a from to =
          (lo : ℕ) × Has image from (Fork lo (length fs)) × (slice_get image.forks i ≡ Some (record { at = from; slot = s; stack = a }))
          × (from + 1 ≡ to) × HasChildren lo fs
      Laid (guard j body) a from to =
          (mid : ℕ) × Has image from (Abrt j) × Laid body (a ++ j ∷ []) (from + 1) mid × Has image mid Leave × HasAbort j to
          × (mid + 1 ≡ to) × (length a < 8)

      pub LaidAll : Nodes → List ℕ → (from to : ℕ) → Type 0
      LaidAll no_nodes a from to = from ≡ to
      LaidAll (and n nodes) a from to = (mid : ℕ) × Laid n a from mid × LaidAll nodes a mid to
