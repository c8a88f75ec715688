-- What a call that does a unit word comes to.
use Rattle.std.specs.Prelude.{◌≡◌, ℕ, ℤ, IsTrue, Option, Some, None, Result, Ok, Err}
use Rattle.mb_isa.specs.declared.costs.Class.{Class}
use Rattle.mb_isa.specs.declared.words.Instr.{Instr}
use Rattle.mb_pfu.specs.declared.TrapKind.{TrapKind}
use Rattle.pt_image.specs.declared.Parts.{Parts}
use Rattle.mb_pfu.specs.Rows.{is_ready}
use Rattle.mb_pfu.specs.Tree.{slot_of}
use Rattle.mb_pfu.specs.Unit.{State}
use Rattle.mb_isa.specs.Control.{Turn, goes, turns_on}
use Rattle.mb_isa.specs.Words.{Plan, Refuse, Go, plan_of}

-- what a word comes to in the turn of slot s, whatever upper half stands
abbrev pub IsTurnPlan : Parts → ℕ → ℕ → State → Instr → Plan → Type 0
IsTurnPlan image s place u i plan = (upper : Option ℤ) → plan_of image (Turn s) place upper u i ≡ plan

-- a call answers a trap, a place at which the slot goes on, or that the slot rests
abbrev pub came : Class → ℕ → Result (Option ℕ) TrapKind → State → Plan
came class s (Err kind) u = Refuse kind
came class s (Ok None) u = Go class (turns_on u)
came class s (Ok (Some place)) u = Go class (goes (Turn s) place u)

-- the slot is still ready where it goes on
abbrev pub IsStillReady : ℕ → Result (Option ℕ) TrapKind → State → Type 0
IsStillReady s (Err kind) u = Unit {0}
IsStillReady s (Ok None) u = Unit {0}
IsStillReady s (Ok (Some place)) u = IsTrue (is_ready (slot_of s u.tree))
