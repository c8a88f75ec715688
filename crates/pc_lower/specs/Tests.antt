-- The conditions at the beginning of a tick: which are looked at, in which order, and what comes of it.
use Rattle.std.specs.Prelude.{◌≡◌, ℕ, ◌+◌, ◌++◌, ◌&&◌, ◌≤◌, ◌<◌, length, not, Bool, true, false, List, [], ◌∷◌, Some, None}
use Rattle.mb_isa.specs.declared.Reg.{Reg}
use Rattle.mb_isa.specs.declared.Instr.TheVariants.{Cend}
use Rattle.mb_pfu.specs.declared.parts.Watch.{Watch}
use Rattle.mb_pfu.specs.declared.parts.Slot.{Slot}
use Rattle.mb_pfu.specs.declared.parts.Slot.TheVariants.{Paused as SlotPaused, Waiting}
use Rattle.mb_pfu.specs.Rows.{any_due, due}
use Rattle.mb_pfu.specs.Tree.{Tree, Group, Leaf, Waits, no_more, member, Running, Pausing, Finished, size, is_among}
use Rattle.mb_pfu.specs.Contexts.{Context}
use Rattle.mb_pfu.specs.Unit.{State as UnitState}
use Rattle.pt_image.specs.declared.Parts.{Parts}
use Rattle.mb_isa.specs.Control.{Testing, tests_on}
use Rattle.mb_isa.specs.Step.{Rules, samples_on}
use Rattle.mb_isa.specs.Tick.{Steps}
use Rattle.pc_lower.specs.Flow.{State, Rest, Rests, at as at_pause, ahead, within, group, nobody, over, going}
use Rattle.pc_lower.specs.Places.{pause_place, fork_place, first_child, line, watch, Has}
use Rattle.pc_lower.specs.Standing.{cut}

-- nothing is due before the middle, and on the way to it
abbrev pub IsPast : Context → Type 0
IsPast [] = Unit {0}
IsPast (f ∷ fs) = (any_due f.watches ≡ false) × (is_among due f.lo f.before ≡ false) × IsPast fs

module _ (image : Parts) where
  -- an entry whose condition is due
  abbrev pub asked : ℕ → Watch
  asked j = record (watch image j true false) { due = true }

  -- where a residual stands once all its conditions are due
  abbrev mutual
    pub asking : List Watch → Rest → Tree
    asking e (at_pause i) = Leaf e (Pausing (pause_place image i))
    asking e (ahead r nodes) = asking e r
    asking e (within j r) = asking (e ++ asked j ∷ []) r
    asking e (group i rs) = Waits e (fork_place image i) (first_child image i) (asking_all rs)

    pub asking_all : Rests → Group
    asking_all nobody = no_more
    asking_all (over rs) = member (Leaf [] Finished) (asking_all rs)
    asking_all (going r rs) = member (asking [] r) (asking_all rs)

  -- and once they have been answered: inside a strong abort that fires nothing is looked at
  abbrev mutual
    pub answered : (ℕ → Bool) → List Watch → Rest → Tree
    answered fires e (at_pause i) = Leaf e (Pausing (pause_place image i))
    answered fires e (ahead r nodes) = answered fires e r
    answered fires e (within j r) =
        cut (not (line image j).weak && fires j)
        (Leaf e (Running (line image j).handler))
        (answered fires (e ++ watch image j true ((line image j).weak && fires j) ∷ []) r)
    answered fires e (group i rs) = Waits e (fork_place image i) (first_child image i) (answered_all fires rs)

    pub answered_all : (ℕ → Bool) → Rests → Group
    answered_all fires nobody = no_more
    answered_all fires (over rs) = member (Leaf [] Finished) (answered_all fires rs)
    answered_all fires (going r rs) = member (answered fires [] r) (answered_all fires rs)

  -- the due entries of a residual's own slot, and that slot with other entries
  abbrev pub spine : Rest → List Watch
  spine (at_pause i) = []
  spine (ahead r nodes) = spine r
  spine (within j r) = asked j ∷ spine r
  spine (group i rs) = []

  abbrev pub dressed : List Watch → Rest → Tree
  dressed w (at_pause i) = Leaf w (Pausing (pause_place image i))
  dressed w (ahead r nodes) = dressed w r
  dressed w (within j r) = dressed w r
  dressed w (group i rs) = Waits w (fork_place image i) (first_child image i) (asking_all rs)

  abbrev pub kind : Rest → Slot
  kind (at_pause i) = SlotPaused (pause_place image i)
  kind (ahead r nodes) = kind r
  kind (within j r) = kind r
  kind (group i rs) = Waiting (fork_place image i) (first_child image i) (size (asking_all rs))

-- the numbers of the conditions that are looked at, in order: from outside in, and from left to right
abbrev pub unless_cut : Bool → List ℕ → List ℕ
unless_cut true js = []
unless_cut false js = js

module _ (image : Parts) (fires : ℕ → Bool) where
  abbrev mutual
    pub looked_at : Rest → List ℕ
    looked_at (at_pause i) = []
    looked_at (ahead r nodes) = looked_at r
    looked_at (within j r) = j ∷ unless_cut (not (line image j).weak && fires j) (looked_at r)
    looked_at (group i rs) = looked_at_all rs

    pub looked_at_all : Rests → List ℕ
    looked_at_all nobody = []
    looked_at_all (over rs) = looked_at_all rs
    looked_at_all (going r rs) = looked_at r ++ looked_at_all rs

-- how many steps the conditions of a residual take at most, where each takes so many
module _ (tests : ℕ → ℕ) where
  abbrev mutual
    pub tests_in : Rest → ℕ
    tests_in (at_pause i) = 0
    tests_in (ahead r nodes) = tests_in r
    tests_in (within j r) = tests j + tests_in r
    tests_in (group i rs) = tests_in_all rs

    pub tests_in_all : Rests → ℕ
    tests_in_all nobody = 0
    tests_in_all (over rs) = tests_in_all rs
    tests_in_all (going r rs) = tests_in r + tests_in_all rs

-- `Calm js state` is what conditions keep: those of js are still to come
module _ (image : Parts) (costs : List ℕ) {Data : Type 0} (rules : Rules Data) (Represents : Data → State → Type 0)
    (Calm : List ℕ → State → Type 0) where
  -- a condition runs to its `cend`, and says whether its abort fires
  pub record Says (j : ℕ) (fires : Bool) (js : List ℕ) (u : UnitState) (d : Data) (most : ℕ) : Type 0 where
    pub place : ℕ
    pub ra : Reg
    pub stands : Has image place (Cend ra)
    pub between : Data
    pub charge : ℕ
    pub count : ℕ
    pub steps : Steps rules image costs (record { phase = Testing (line image j).cond; unit = u; upper = None }) d charge count
        (record { phase = Testing place; unit = u; upper = None }) between
    pub within : count + 1 ≤ most
    pub after : Data
    pub says : rules.holds ra between ≡ Some (fires, after)
    pub state : State
    pub represents : Represents after state
    pub calm : Calm js state

  -- from a unit and data the conditions go on to those of another unit
  pub record Asks (u : UnitState) (d : Data) (to : UnitState) (js : List ℕ) (most : ℕ) : Type 0 where
    pub after : Data
    pub charge : ℕ
    pub count : ℕ
    pub steps : Steps rules image costs (tests_on u) (samples_on rules u d) charge count (tests_on to) (samples_on rules to after)
    pub within : count ≤ most
    pub state : State
    pub represents : Represents after state
    pub calm : Calm js state

-- aborts that the image has
abbrev pub AreAborts : Parts → List ℕ → Type 0
AreAborts image [] = Unit {0}
AreAborts image (j ∷ js) = (j < length image.aborts) × AreAborts image js
