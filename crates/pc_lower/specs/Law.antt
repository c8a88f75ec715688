-- What it says that the code of a node does what the node means.
use Rattle.std.specs.Prelude.{◌≡◌, ℕ, ◌+◌, ◌≤◌, ◌==◌, ◌++◌, length, if◌then◌else◌, Bool, false, List, [], ◌∷◌}
use Rattle.mb_isa.specs.declared.Instr.TheVariants.{End as EndWord}
use Rattle.mb_pfu.specs.declared.parts.Watch.{Watch}
use Rattle.mb_pfu.specs.Rows.{relief}
use Rattle.mb_pfu.specs.Tree.{Tree, Leaf, Waits, Running, Pausing, Finished, relieved_tree}
use Rattle.mb_pfu.specs.Contexts.{Context, plug, middle, climb}
use Rattle.mb_pfu.specs.Unit.{State as UnitState}
use Rattle.pt_image.specs.declared.Parts.{Parts}
use Rattle.mb_isa.specs.Control.{Control, Turn, goes, turns_on}
use Rattle.mb_isa.specs.Step.{Rules}
use Rattle.mb_isa.specs.Tick.{Steps}
use Rattle.mb_isa.specs.Free.{numbers_of}
use Rattle.pc_lower.specs.declared.nodes.Step.{Step}
use Rattle.pc_lower.specs.declared.nodes.Test.{Test}
use Rattle.pc_lower.specs.Flow.{State, run, decides, tested, Node, Nodes, straight, sequence, branch, turns, bounded, call, pause, fork, guard, no_nodes, and, Rest, End, Through, Halted, state_of, Flows, flow_at, again}
use Rattle.pc_lower.specs.Slots.{Fits, IsGood}
use Rattle.pc_lower.specs.Places.{slot_start, first_child, Has}
use Rattle.pc_lower.specs.Standing.{Stands, woken}
use Rattle.pc_lower.specs.Laid.{Placing, Laid}
use Rattle.pc_lower.specs.StepCounts.{Sizes}

-- ---- where the machine stands

-- the links and the loop counters of the moment, the last ones last
pub record Nesting : Type 0 where
  pub links : List ℕ
  pub counters : List ℕ

abbrev pub unnested : Nesting
unnested = record { links = []; counters = [] }

abbrev pub with_link : Nesting → ℕ → Nesting
with_link nest back = record { links = nest.links ++ back ∷ []; counters = nest.counters }

abbrev pub with_counter : Nesting → ℕ → Nesting
with_counter nest k = record { links = nest.links; counters = nest.counters ++ k ∷ [] }

-- a slot that came to rest: where an entry of it is fired, it goes on at the handler
abbrev pub relieved : Tree → Tree
relieved (Leaf e (Running place)) = Leaf e (Running place)
relieved (Leaf e (Pausing place)) = relieved_tree (Leaf e (Pausing place)) (relief e)
relieved (Leaf e Finished) = Leaf e Finished
relieved (Waits e place lo ts) = relieved_tree (Waits e place lo ts) (relief e)

-- and what is round it settles
abbrev pub rested : Context → Tree → Tree
rested context t = climb context (relieved t)

module _ (image : Parts) where
  abbrev pub unit_at : Nesting → Tree → UnitState
  unit_at nest t = record { slots = length image.slots; tree = t; links = nest.links; counters = nest.counters }

  -- the slot in the middle has its turn and is at a place; the place that its leaf holds is of no matter
  abbrev pub placed : Nesting → Context → List Watch → (stale place : ℕ) → Control
  placed nest context e stale place = goes (Turn (middle context)) place (unit_at nest (plug context (Leaf e (Running stale))))

  -- the next turn begins
  abbrev pub turning : Tree → Control
  turning t = turns_on (unit_at unnested t)

-- ---- what it comes to

module _ (image : Parts) (costs : List ℕ) {Data : Type 0} (rules : Rules Data) (Represents : Data → State → Type 0) where
  -- it comes to this control, with data for this state, in so many steps at most
  pub record Comes (c : Control) (d : Data) (target : ℕ → Control) (state : State) (most : ℕ) : Type 0 where
    pub stale : ℕ
    pub after : Data
    pub charge : ℕ
    pub count : ℕ
    pub steps : Steps rules image costs c d charge count (target stale) after
    pub represents : Represents after state
    pub within : count ≤ most

module _ (parent : ℕ → ℕ) (image : Parts) (costs : List ℕ) {Data : Type 0} (rules : Rules Data) (Represents : Data → State → Type 0) where
  -- it comes to rest where a residual stands, and what is round it has settled
  pub record Halts (c : Control) (d : Data) (context : Context) (e : List Watch) (r : Rest) (state : State) (most : ℕ) : Type 0 where
    pub tree : Tree
    pub stands : Stands image e r tree
    pub fits : Fits parent (middle context) tree
    pub comes : Comes image costs rules Represents c d (λ stale. turning image (rested context tree)) state most

  -- how a node ends: in so many steps to its end, or to rest
  abbrev pub Meets : Nesting → Context → List Watch → ℕ → Control → Data → (u v : ℕ) → End → Type 0
  Meets nest context e to c d u v (Through state) =
      Comes image costs rules Represents c d (λ stale. placed image nest context e stale to) state u
  Meets nest context e to c d u v (Halted r state) = Halts c d context e r state v

  -- how a thread ends
  abbrev pub ThreadMeets : Context → Control → Data → ℕ → End → Type 0
  ThreadMeets context c d u (Through state) =
      Comes image costs rules Represents c d (λ stale. turning image (climb context (Leaf [] Finished))) state u
  ThreadMeets context c d u (Halted r state) = Halts c d context [] r state u

  -- slot c with this tree does what is meant, whatever is round it
  abbrev pub Does : (c : ℕ) → Tree → ℕ → (State → End) → Type 0
  Does c t u meaning =
      (context : Context) (d : Data) (state : State) → IsGood parent context → middle context ≡ c → Represents d state →
      ThreadMeets context (turning image (plug context t)) d u (meaning state)

  -- the words of a node from a place to another do what is meant: in slot s, inside these aborts, links and counters
  abbrev pub Goes : (s : ℕ) → List ℕ → Nesting → (from to : ℕ) → (u v : ℕ) → (State → End) → Type 0
  Goes s a nest from to u v meaning =
      (context : Context) (e : List Watch) (stale : ℕ) (d : Data) (state : State) →
      IsGood parent context → middle context ≡ s → numbers_of e ≡ a → Represents d state →
      Meets nest context e to (placed image nest context e stale from) d u v (meaning state)

  -- what is left of a node does what it means, from the beginning of the tick's turns
  abbrev pub Resumes : Flows → (weak fires : ℕ → Bool) → (s : ℕ) → List ℕ → (to : ℕ) → Rest → (u v : ℕ) → Type 0
  Resumes known weak fires s a to r u v =
      (context : Context) (e : List Watch) (d : Data) (state : State) →
      IsGood parent context → middle context ≡ s → numbers_of e ≡ a → Represents d state →
      Meets unnested context e to (turning image (plug context (woken image fires e r))) d u v (again known weak fires r state)

  -- ---- what the parts of a program owe one another

  module _ (known : Flows) (sizes : Sizes) (placing : Placing) where
    -- slot c does from its start what function f means
    abbrev pub Starts : (c f : ℕ) → Type 0
    Starts c f = Does c (Leaf [] (Running (slot_start image c))) (sizes.threads f) (flow_at known f)

    abbrev pub AllStart : ℕ → List ℕ → Type 0
    AllStart c [] = Unit {0}
    AllStart c (f ∷ fs) = Starts c f × AllStart (c + 1) fs

    -- a routine does what it means and comes back, whoever calls it
    abbrev pub Returns : ℕ → Nesting → Type 0
    Returns f nest =
        (back : ℕ) (context : Context) (e : List Watch) (stale : ℕ) (d : Data) (state : State) →
        IsGood parent context → Represents d state →
        Comes image costs rules Represents (placed image (with_link nest back) context e stale (placing.entrance f)) d
        (λ q. placed image nest context e q back) (state_of (flow_at known f state)) (sizes.routines f)

    -- there is room for the links and counters of a node, and what it calls and starts does what it means
    abbrev mutual
      pub Room : Node → Nesting → Type 0
      Room (straight steps) nest = Unit {0}
      Room (sequence nodes) nest = RoomAll nodes nest
      Room (branch test a b) nest = Room a nest × Room b nest
      Room (turns test body) nest = Room body nest
      Room (bounded n test body) nest = ((length nest.counters == 136) ≡ false) × ((k : ℕ) → Room body (with_counter nest k))
      Room (call f) nest = ((length nest.links == 16) ≡ false) × Returns f nest
      Room (pause i) nest = nest ≡ unnested
      Room (fork i fs) nest = (nest ≡ unnested) × AllStart (first_child image i) fs
      Room (guard j body) nest = (nest ≡ unnested) × Room body nest

      pub RoomAll : Nodes → Nesting → Type 0
      RoomAll no_nodes nest = Unit {0}
      RoomAll (and n nodes) nest = Room n nest × RoomAll nodes nest

-- ---- what the data do

-- The words of steps do them, and those of a test decide it, in any slot.
pub record Laws (image : Parts) (costs : List ℕ) {Data : Type 0} (rules : Rules Data) (Represents : Data → State → Type 0) (sizes : Sizes)
    (HasSteps : List Step → ℕ → ℕ → Type 0) (HasTest : Test → ℕ → ℕ → ℕ → Type 0) : Type 0 where
  pub steps : (p : List Step) (from to s : ℕ) (u : UnitState) (d : Data) (state : State) → HasSteps p from to → Represents d state →
      Comes image costs rules Represents (goes (Turn s) from u) d (λ q. goes (Turn s) to u) (run p state) (sizes.words p)
  pub test : (t : Test) (from inner out s : ℕ) (u : UnitState) (d : Data) (state : State) → HasTest t from inner out → Represents d state →
      Comes image costs rules Represents (goes (Turn s) from u) d
      (λ q. goes (Turn s) (if decides t state then inner else out) u) (tested t state) (sizes.test_words t)

-- the words of a function stand from the start of slot c to an `end`, with all that it calls and starts
pub record IsPart (parent : ℕ → ℕ) (image : Parts) (costs : List ℕ) {Data : Type 0} (rules : Rules Data)
    (Represents : Data → State → Type 0) (known : Flows) (weak : ℕ → Bool) (sizes : Sizes)
    (HasSteps : List Step → ℕ → ℕ → Type 0) (HasTest : Test → ℕ → ℕ → ℕ → Type 0) (placing : Placing)
    (body : Node) (c : ℕ) : Type 0 where
  pub stop : ℕ
  pub laid : Laid parent image known weak HasSteps HasTest placing c body [] (slot_start image c) stop
  pub stops : Has image stop EndWord
  pub room : Room parent image costs rules Represents known sizes placing body unnested
