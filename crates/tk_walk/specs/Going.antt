-- What the calls of a free tick tell.
use Rattle.std.specs.Prelude.{◌≡◌, ◌↔◌, ℕ, ℤ, ◌+◌, Bool, IfSome, [], IsTrue, List, drop, slice_get, option_map, Option, Some, None, Result, Ok, Err}
use Rattle.mb_isa.specs.declared.Instr.{Instr}
use Rattle.pt_image.specs.declared.Parts.{Parts}
use Rattle.mb_pfu.specs.Rows.{is_ready}
use Rattle.mb_pfu.specs.Tree.{slot_of}
use Rattle.mb_pfu.specs.Unit.{State}
use Rattle.mb_isa.specs.Control.{Control, Who, Turn, Condition, goes, turns_on, tests_on, answered}
use Rattle.mb_isa.specs.Words.{Plan, Work, Branch, branched, plan_of, plan_decoded, plan_word}
use Rattle.mb_isa.specs.Step.{Stepped, Moves, Traps, Undecided, stepped, led as taken_to}
use Rattle.mb_isa.specs.Free.{free}
use Rattle.tk_walk.specs.declared.parts.To.{To}
use Rattle.tk_walk.specs.declared.parts.To.TheVariants.{On, Rest, Conclude}
use Rattle.tk_walk.specs.declared.parts.Went.{Went}
use Rattle.tk_walk.specs.declared.parts.Stop.{Stop}
use Rattle.tk_walk.specs.declared.parts.Stop.TheVariants.{Trap, Open}

abbrev pub who_of : Option ℕ → Who
who_of None = Condition
who_of (Some s) = Turn s

-- the unit, the upper half that stands, and how many choices were taken
pub record FreeState : Type 0 where
  pub unit : State
  pub upper : Option ℤ
  pub used : ℕ

-- the choices that are left
abbrev pub left : List Bool → FreeState → List Bool
left choices k = drop k.used choices

-- whether no choice is left
abbrev pub IsSpent : List Bool → FreeState → Bool → Type 0
IsSpent choices k spent = IsTrue spent ↔ (left choices k ≡ [])

-- where a step leads
abbrev pub led : Who → To → Option ℤ → State → Control
led who (On place) upper u = record (goes who place u) { upper = upper }
led who Rest upper u = turns_on u
led who (Conclude holds) upper u = tests_on (answered holds u)

-- why a step isn't done
abbrev pub halted : Stop → Stepped (List Bool)
halted (Trap kind) = Traps kind
halted Open = Undecided

-- a step as a call's answer and the state after it give it
abbrev pub went : List Bool → Option ℕ → Result Went Stop → FreeState → Stepped (List Bool)
went choices slot (Err stop) k = halted stop
went choices slot (Ok w) k = Moves w.charge (led (who_of slot) w.to k.upper k.unit) (left choices k)

-- where a branch leads
abbrev pub targeted : Option ℕ → Option ℕ → State → Option Control
targeted slot None u = None
targeted slot (Some place) u = Some (goes (who_of slot) place u)

-- a place to which a branch leads, for a slot or a condition
abbrev pub IsTarget : Parts → ℕ → FreeState → ℤ → Option ℕ → Type 0
IsTarget image place k imm to = (slot : Option ℕ) → branched image (who_of slot) place k.upper k.unit imm ≡ targeted slot to k.unit

-- the slot of a turn is still ready where it goes on
abbrev pub KeepsTurn : ℕ → To → State → Type 0
KeepsTurn s (On place) new = IsTrue (is_ready (slot_of s new.tree))
KeepsTurn s Rest new = Unit {0}
KeepsTurn s (Conclude holds) new = ⊥

-- what the steps of words come to, for who stands at a place
abbrev pub plan_at : Parts → Option ℕ → ℕ → FreeState → Instr → Plan
plan_at image slot place k i = plan_of image (who_of slot) place k.upper k.unit i

abbrev pub work_at : Option ℕ → ℕ → FreeState → Instr → Plan
work_at slot place k i = Work i k.upper (goes (who_of slot) (place + 1) k.unit)

abbrev pub branched_at : Parts → Option ℕ → ℕ → FreeState → ℤ → Option Control
branched_at image slot place k imm = branched image (who_of slot) place k.upper k.unit imm

abbrev pub branch_at : Parts → Option ℕ → ℕ → FreeState → Instr → ℤ → Plan
branch_at image slot place k i imm = Branch i (branched_at image slot place k imm) (goes (who_of slot) (place + 1) k.unit)

abbrev pub decoded_at : Parts → Option ℕ → ℕ → FreeState → Option Instr → Plan
decoded_at image slot place k word = plan_decoded image (who_of slot) place k.upper k.unit word

abbrev pub plan_there : Parts → Option ℕ → ℕ → FreeState → Plan
plan_there image slot place k = plan_word image (who_of slot) place k.upper k.unit (slice_get image.code place)

-- a call does the step of a plan
abbrev pub IsStep : List Bool → List ℕ → Option ℕ → Plan → FreeState → Result Went Stop → FreeState → Type 0
IsStep choices costs slot plan old result new = stepped free costs (left choices old) plan ≡ went choices slot result new

-- a call does the step of a word
abbrev pub IsWord : List Bool → Parts → List ℕ → Option ℕ → ℕ → Instr → FreeState → Result Went Stop → FreeState → Type 0
IsWord choices image costs slot place i old result new = IsStep choices costs slot (plan_at image slot place old i) old result new

-- a call goes where a branch leads that is taken
abbrev pub IsLed : List Bool → List ℕ → Option ℕ → Option Control → FreeState → Result Went Stop → FreeState → Type 0
IsLed choices costs slot to old result new = taken_to free costs to (left choices old) ≡ went choices slot result new

-- a call takes the next choice
abbrev pub chose : Option Bool → List Bool → Option (Bool × List Bool)
chose o choices = option_map (λ b. (b, choices)) o

-- the slot of a turn is ready
abbrev pub IsTurn : Option ℕ → State → Type 0
IsTurn slot u = IfSome slot (λ s. IsTrue (is_ready (slot_of s u.tree)))

-- a condition leaves the unit
abbrev pub Keeps : Option ℕ → State → Result Went Stop → State → Type 0
Keeps slot old (Err stop) new = Unit {0}
Keeps None old (Ok w) new = new ≡ old
Keeps (Some s) old (Ok w) new = KeepsTurn s w.to new
