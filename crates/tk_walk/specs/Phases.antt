-- Where a free tick is, and how it ends.
use Rattle.std.specs.Prelude.{◌≡◌, ℕ, suc, Bool, IsTrue, is_some, List, Option, Some, None, Result, Ok, Err}
use Rattle.mb_pfu.specs.Rows.{is_ready}
use Rattle.mb_pfu.specs.Tree.{slot_of, next_test}
use Rattle.mb_pfu.specs.Unit.{State}
use Rattle.mb_isa.specs.Control as control
use Rattle.mb_isa.specs.Control.{Control}
use Rattle.pt_image.specs.declared.Parts.{Parts}
use Rattle.mb_isa.specs.Step.{Stepped, Moves, step}
use Rattle.mb_isa.specs.Tick.{Outcome, Ends, Trapped, Open, run, tick}
use Rattle.mb_isa.specs.Free.{free}
use Rattle.tk_walk.specs.declared.parts.Phase.{Phase}
use Rattle.tk_walk.specs.declared.parts.Phase.TheVariants.{Testing, Running, Resting}
use Rattle.tk_walk.specs.declared.parts.Moved.{Moved}
use Rattle.tk_walk.specs.declared.parts.Stop.{Stop}
use Rattle.tk_walk.specs.declared.parts.Went.{Went}
use Rattle.tk_walk.specs.Going.{FreeState, left, halted, went}

abbrev pub phase_of : Phase → control.Phase
phase_of (Testing place) = control.Testing place
phase_of (Running s place) = control.Running s place
phase_of Resting = control.Resting

abbrev pub place_in : Phase → Option ℕ
place_in (Testing place) = Some place
place_in (Running s place) = Some place
place_in Resting = None

abbrev pub control_of : Phase → FreeState → Control
control_of phase k = record { phase = phase_of phase; unit = k.unit; upper = k.upper }

-- a test is due in a condition, and a slot in its turn is ready
abbrev pub IsPhase : Phase → State → Type 0
IsPhase (Testing place) u = IsTrue (is_some (next_test u.tree))
IsPhase (Running s place) u = IsTrue (is_ready (slot_of s u.tree))
IsPhase Resting u = Unit {0}

-- a step and what comes after it, as a call's answer and the state after it give them
abbrev pub moved : List Bool → Result Moved Stop → FreeState → Stepped (List Bool)
moved choices (Err stop) k = halted stop
moved choices (Ok m) k = Moves m.charge (control_of m.phase k) (left choices k)

abbrev pub IsMoved : Result Moved Stop → State → Type 0
IsMoved (Err stop) u = Unit {0}
IsMoved (Ok m) u = IsPhase m.phase u

-- a tick that doesn't come to its end
abbrev pub IsUnfinished : Outcome (List Bool) → Type 0
IsUnfinished (Ends cycles unit choices) = ⊥
IsUnfinished (Trapped kind at charged) = Unit {0}
IsUnfinished (Open charged) = Unit {0}

-- a tick as a call's answer and the state after it give it: it ends with these cycles, or doesn't come to its end
abbrev pub IsEnd : List Bool → Outcome (List Bool) → Option ℕ → FreeState → Type 0
IsEnd choices o (Some cycles) k = o ≡ Ends cycles k.unit (left choices k)
IsEnd choices o None k = IsUnfinished o

-- a call does the step of a phase, and what comes after it
abbrev pub IsAdvance : List Bool → Parts → List ℕ → Phase → FreeState → Result Moved Stop → FreeState → Type 0
IsAdvance choices image costs phase old result new = step free costs image (control_of phase old) (left choices old) ≡ moved choices result new

-- a call does what comes after a step of a condition, or of slot s
abbrev pub IsAfter : List Bool → Option ℕ → Went → FreeState → Moved → FreeState → Type 0
IsAfter choices slot did old result new = went choices slot (Ok did) old ≡ moved choices (Ok result) new

-- a call does the steps of a tick from a phase on
abbrev pub IsRun : List Bool → Parts → List ℕ → ℕ → ℕ → Phase → FreeState → Option ℕ → FreeState → Type 0
IsRun choices image costs most begin start old result new =
    IsEnd choices (run free image costs (suc most) most begin (control_of start old) (left choices old)) result new

-- a call does a whole tick
abbrev pub IsTick : List Bool → Parts → List ℕ → ℕ → FreeState → Option ℕ → FreeState → Type 0
IsTick choices image costs most old result new = IsEnd choices (tick free image costs most old.unit (left choices old)) result new
