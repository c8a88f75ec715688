-- What stands beside the data: where a tick is, the unit, and the upper half for the next word: docs/machine.md, "Tick".
use Rattle.std.specs.Prelude.{ℕ, ℤ, Bool, List, map, Option, Some, None}
use Rattle.mb_pfu.specs.declared.Slot.{Slot}
use Rattle.mb_pfu.specs.declared.Slot.TheVariants as slot
use Rattle.mb_pfu.specs.declared.parts.Watch.{Watch}
use Rattle.mb_pfu.specs.Tree.{next_job, next_test, slot_of, watches_of, all_woken, test_answered}
use Rattle.mb_pfu.specs.Unit.{State, entry_of}
use Rattle.mb_pfu.specs.Calls.{with_tree}

-- a tick is in a condition, at a place of the code; or a slot takes its turn and is at a place; or no slot is ready
pub data Phase : Type 0 where
  Testing : (place : ℕ) → Phase
  Running : (s place : ℕ) → Phase
  Resting : Phase

-- a tick under way
pub record Control : Type 0 where
  pub phase : Phase
  pub unit : State
  pub upper : Option ℤ

-- who takes a step: a slot in its turn, or a condition
pub data Who : Type 0 where
  Turn : (s : ℕ) → Who
  Condition : Who

-- who takes the next step in a phase, and where
abbrev pub job_in : Phase → Option (Who × ℕ)
job_in (Testing place) = Some (Condition, place)
job_in (Running s place) = Some (Turn s, place)
job_in Resting = None

-- who takes the next step, and where; none where no slot is ready
abbrev pub job : Control → Option (Who × ℕ)
job c = job_in c.phase

abbrev pub place_for : Option (Who × ℕ) → ℕ
place_for None = 0
place_for (Some j) = j.1

-- the place of the next step
abbrev pub place_of : Control → ℕ
place_of c = place_for (job c)

-- a turn or a condition at a place
abbrev pub phase_at : Who → ℕ → Phase
phase_at (Turn s) place = Running s place
phase_at Condition place = Testing place

-- it goes on at a place, and no upper half stands
abbrev pub goes : Who → ℕ → State → Control
goes who to u = record { phase = phase_at who to; unit = u; upper = None }

-- where a slot's turn begins
abbrev pub start_in : Slot → ℕ
start_in slot.Free = 0
start_in (slot.Ready place) = place
start_in (slot.Paused place) = place
start_in (slot.Waiting at lo count) = at
start_in slot.Ended = 0

-- the first ready slot in depth-first order takes its turn
abbrev pub turns_from : State → Option ℕ → Control
turns_from u (Some s) = record { phase = Running s (start_in (slot_of s u.tree)); unit = u; upper = None }
turns_from u None = record { phase = Resting; unit = u; upper = None }

abbrev pub turns_on : State → Control
turns_on u = turns_from u (next_job u.tree)

-- the paused slots are ready one word on
abbrev pub wakes : State → State
wakes u = with_tree (all_woken u.tree) u

-- the condition of the first due test runs, at its place; where none is due, the turns begin
abbrev pub tests_from : State → Option (ℕ × ℕ) → Control
tests_from u (Some t) = record { phase = Testing ((entry_of (watches_of t.0 u.tree) t.1).cond); unit = u; upper = None }
tests_from u None = turns_on (wakes u)

abbrev pub tests_on : State → Control
tests_on u = tests_from u (next_test u.tree)

-- a condition has ended: a weak entry is fired where it holds, and a strong one is dropped
abbrev pub answered : Bool → State → State
answered holds u = with_tree (test_answered holds u.tree) u

-- the numbers of the aborts that a slot is inside, from the outermost
abbrev pub stack_of : ℕ → State → List ℕ
stack_of s u = map (λ (w : Watch). w.entry.number) (watches_of s u.tree)
