-- What the machine's calls tell.
use Rattle.std.specs.Prelude.{◌≡◌, ℕ, ℤ, ◌+◌, IfSome, IsTrue, List, pos, replicate, slice_get, Option, Some, None, Result, Ok, Err}
use Rattle.mb_isa.specs.declared.Class.{Class}
use Rattle.mb_isa.specs.declared.Instr.{Instr}
use Rattle.mb_pfu.specs.declared.TrapKind.{TrapKind}
use Rattle.mb_pfu.specs.declared.TrapKind.TheVariants.{OutOfCode}
use Rattle.pt_image.specs.declared.Parts.{Parts}
use Rattle.mb_pfu.specs.Rows.{is_ready}
use Rattle.mb_pfu.specs.Tree.{slot_of}
use Rattle.mb_pfu.specs.Unit.{State}
use Rattle.mb_isa.specs.Control.{Control, Who, Turn, Condition, goes, turns_on, tests_on, answered}
use Rattle.mb_isa.specs.Words.{Plan, Refuse, Go, Work, Branch, branched, plan_of, plan_decoded, plan_word}
use Rattle.mb_isa.specs.Step.{Rules, Stepped, Moves, Traps, samples_on, stepped, led as taken_to}
use Rattle.mb_isa.specs.Cells.{Cells, machine}
use Rattle.mb_core.specs.declared.parts.To.{To}
use Rattle.mb_core.specs.declared.parts.To.TheVariants.{On, Rest, Conclude}
use Rattle.mb_core.specs.declared.parts.Went.{Went}

abbrev pub who_of : Option ℕ → Who
who_of None = Condition
who_of (Some s) = Turn s

-- the step of a word that was looked up and decoded
abbrev pub plan_found : Parts → Who → ℕ → Option ℤ → State → Option (Option Instr) → Plan
plan_found image who place upper u None = Refuse OutOfCode
plan_found image who place upper u (Some word) = plan_decoded image who place upper u word

-- the machine's state
pub record CoreState : Type 0 where
  pub cells : Cells
  pub unit : State
  pub upper : Option ℤ

-- all registers are 0, and no upper half stands
abbrev pub core_of : List ℤ → State → CoreState
core_of memory unit = record { cells = record { registers = replicate 32 (pos 0); memory = memory }; unit = unit; upper = None }

-- where a step leads
abbrev pub led : Who → To → Option ℤ → State → Control
led who (On place) upper u = record (goes who place u) { upper = upper }
led who Rest upper u = turns_on u
led who (Conclude holds) upper u = tests_on (answered holds u)

-- what the data are where a step leads
abbrev pub cells_after : Rules Cells → To → CoreState → Cells
cells_after rules (On place) k = k.cells
cells_after rules Rest k = k.cells
cells_after rules (Conclude holds) k = samples_on rules (answered holds k.unit) k.cells

-- a step as a call's answer and the state after it give it
abbrev pub went : Rules Cells → Option ℕ → Result Went TrapKind → CoreState → Stepped Cells
went rules slot (Err kind) k = Traps kind
went rules slot (Ok w) k = Moves w.charge (led (who_of slot) w.to k.upper k.unit) (cells_after rules w.to k)

-- where a branch leads
abbrev pub targeted : Option ℕ → Option ℕ → State → Option Control
targeted slot None u = None
targeted slot (Some place) u = Some (goes (who_of slot) place u)

-- a place to which a branch leads, for a slot or a condition
abbrev pub IsTarget : Parts → ℕ → CoreState → ℤ → Option ℕ → Type 0
IsTarget image place k imm to = (slot : Option ℕ) → branched image (who_of slot) place k.upper k.unit imm ≡ targeted slot to k.unit

-- the slot of a turn is still ready where it goes on
abbrev pub KeepsTurn : ℕ → To → State → Type 0
KeepsTurn s (On place) new = IsTrue (is_ready (slot_of s new.tree))
KeepsTurn s Rest new = Unit {0}
KeepsTurn s (Conclude holds) new = ⊥

-- what the steps of words come to, for who stands at a place
abbrev pub plan_at : Parts → Option ℕ → ℕ → CoreState → Instr → Plan
plan_at image slot place k i = plan_of image (who_of slot) place k.upper k.unit i

abbrev pub work_at : Option ℕ → ℕ → CoreState → Instr → Plan
work_at slot place k i = Work i k.upper (goes (who_of slot) (place + 1) k.unit)

abbrev pub branched_at : Parts → Option ℕ → ℕ → CoreState → ℤ → Option Control
branched_at image slot place k imm = branched image (who_of slot) place k.upper k.unit imm

abbrev pub branch_at : Parts → Option ℕ → ℕ → CoreState → Instr → ℤ → Plan
branch_at image slot place k i imm = Branch i (branched_at image slot place k imm) (goes (who_of slot) (place + 1) k.unit)

abbrev pub found_at : Parts → Option ℕ → ℕ → CoreState → Option (Option Instr) → Plan
found_at image slot place k word = plan_found image (who_of slot) place k.upper k.unit word

abbrev pub plan_there : Parts → Option ℕ → ℕ → CoreState → Plan
plan_there image slot place k = plan_word image (who_of slot) place k.upper k.unit (slice_get image.code place)

-- a call does the step of a plan
abbrev pub IsStep : Parts → List ℕ → Option ℕ → Plan → CoreState → Result Went TrapKind → CoreState → Type 0
IsStep image costs slot plan old result new =
    (values : List ℤ) → stepped (machine image values) costs old.cells plan ≡ went (machine image values) slot result new

-- a call does the step of a word
abbrev pub IsWord : Parts → List ℕ → Option ℕ → ℕ → Instr → CoreState → Result Went TrapKind → CoreState → Type 0
IsWord image costs slot place i old result new = IsStep image costs slot (plan_at image slot place old i) old result new

-- a call goes where a branch leads that is taken
abbrev pub IsLed : Parts → List ℕ → Option ℕ → Option Control → CoreState → Result Went TrapKind → CoreState → Type 0
IsLed image costs slot to old result new = (values : List ℤ) → taken_to (machine image values) costs to old.cells ≡ went (machine image values) slot result new

-- the slot of a turn is ready
abbrev pub IsTurn : Option ℕ → State → Type 0
IsTurn slot u = IfSome slot (λ s. IsTrue (is_ready (slot_of s u.tree)))

-- a condition leaves the unit
abbrev pub Keeps : Option ℕ → State → Result Went TrapKind → State → Type 0
Keeps slot old (Err kind) new = Unit {0}
Keeps None old (Ok w) new = new ≡ old
Keeps (Some s) old (Ok w) new = KeepsTurn s w.to new
