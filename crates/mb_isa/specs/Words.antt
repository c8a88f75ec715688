-- What each word comes to, whatever the data are, and what it asks of the data: docs/machine.md, "Instruction words" and "Unit words".
use Rattle.std.specs.Prelude.{ℕ, ℤ, ◌+◌, nat_lt, not, ◌||◌, Bool, false, if◌then◌else◌, length, take, drop, slice_get, Option, Some, None, Result, Ok, Err}
use Rattle.mb_isa.specs.declared.registers.Reg.{Reg}
use Rattle.mb_isa.specs.declared.words.Instr.{Instr}
use Rattle.mb_isa.specs.declared.words.Instr.TheVariants.{Addk, Rsubk, Cmp, Or, And, Xor, Mul, Idiv, Bsrl, Bsra, Bsll, Addik, Ori, Andi, Xori, Imm, Bri, Beqi, Bnei, Blti, Blei, Bgti, Bgei, Lw, Sw, Lwi, Swi, Fork, Eot, End, Abrt, Leave, Call, Ret, Loop, Next, Drop, Cend}
use Rattle.mb_isa.specs.declared.costs.Class.{Class}
use Rattle.mb_isa.specs.declared.costs.Class.TheVariants as class
use Rattle.mb_isa.specs.Candidates.{decoded}
use Rattle.mb_isa.specs.Operands.{immediate, turns_of, branch_place}
use Rattle.mb_isa.specs.Classes.{takes_upper}
use Rattle.mb_pfu.specs.declared.TrapKind.{TrapKind}
use Rattle.mb_pfu.specs.declared.TrapKind.TheVariants.{BadWord, OutOfCode, WrongPlace}
use Rattle.mb_pfu.specs.Unit.{State, fresh}
use Rattle.pt_image.specs.declared.AbortLine.{AbortLine}
use Rattle.pt_image.specs.declared.Parts.{Parts}
use Rattle.pt_image.specs.Listed.{is_listed}
use Rattle.mb_isa.specs.Control.{Who, Turn, Condition, Control, job, goes, turns_on, stack_of}
use Rattle.mb_pfu.specs.Calls as unit

-- What a step comes to before the data have their say.
pub data Plan : Type 0 where
  -- no slot is ready
  Rest : Plan
  -- it isn't done
  Refuse : (kind : TrapKind) → Plan
  -- it is done, whatever the data are
  Go : (class : Class) → (next : Control) → Plan
  -- the data do the word, or its address is bad
  Work : (i : Instr) → (upper : Option ℤ) → (next : Control) → Plan
  -- the data say whether the branch is taken; where it is, it leads nowhere if its byte is no place of the code
  Branch : (i : Instr) → (taken : Option Control) → (untaken : Control) → Plan
  -- the data say whether the condition holds
  Conclude : (ra : Reg) → (unit : State) → Plan

-- an upper half stands, and the word may not follow it
abbrev pub is_barred : Option ℤ → Instr → Bool
is_barred None i = false
is_barred (Some upper) i = not (takes_upper i)

-- a call of the unit after which the slot rests: the next turn begins
abbrev pub rests : Class → Result State TrapKind → Plan
rests class (Err kind) = Refuse kind
rests class (Ok u) = Go class (turns_on u)

-- a call after which it goes on at a place
abbrev pub on : Class → ℕ → ℕ → Result State TrapKind → Plan
on class s to (Err kind) = Refuse kind
on class s to (Ok u) = Go class (goes (Turn s) to u)

-- a call after which it goes on at a place that the call tells
abbrev pub on_to : {X : Type 0} → Class → ℕ → (X → ℕ) → Result (State × X) TrapKind → Plan
on_to class s to (Err kind) = Refuse kind
on_to class s to (Ok p) = Go class (goes (Turn s) (to p.1) p.0)

-- `abrt` with the abort line of its number
abbrev pub enters : ℕ → ℕ → ℕ → State → Option AbortLine → Plan
enters s place j u None = Refuse WrongPlace
enters s place j u (Some line) = on class.Abrt s (place + 1) (unit.enter u s (fresh j line.weak line.cond line.handler))

module _ (image : Parts) (who : Who) (place : ℕ) (upper : Option ℤ) (u : State) where
  -- a unit word stands in a turn
  abbrev pub in_turn : (ℕ → Plan) → Plan
  in_turn f = (elim who as (λ _. Plan) [ Turn s ↦ f s | Condition ↦ Refuse WrongPlace ])

  -- `cend` stands in a condition
  abbrev pub in_condition : Plan → Plan
  in_condition p = (elim who as (λ _. Plan) [ Turn s ↦ Refuse WrongPlace | Condition ↦ p ])

  abbrev pub next_word : Control
  next_word = goes who (place + 1) u

  abbrev pub goes_to : Option ℕ → Option Control
  goes_to None = None
  goes_to (Some to) = Some (goes who to u)

  -- where a branch leads, if that is a place of the code
  abbrev pub branched : ℤ → Option Control
  branched imm = goes_to (branch_place (length image.code) place (immediate upper imm))

  -- `bri`
  abbrev pub jump : Option Control → Plan
  jump None = Refuse OutOfCode
  jump (Some next) = Go class.Jump next

  -- a word that the data do
  abbrev pub work : Instr → Plan
  work i = Work i upper next_word

  -- a conditional branch
  abbrev pub test : Instr → ℤ → Plan
  test i imm = Branch i (branched imm) next_word

  -- the step of each word
  abbrev pub plan_of : Instr → Plan
  plan_of (Addk rd ra rb) = work (Addk rd ra rb)
  plan_of (Rsubk rd ra rb) = work (Rsubk rd ra rb)
  plan_of (Cmp rd ra rb) = work (Cmp rd ra rb)
  plan_of (Or rd ra rb) = work (Or rd ra rb)
  plan_of (And rd ra rb) = work (And rd ra rb)
  plan_of (Xor rd ra rb) = work (Xor rd ra rb)
  plan_of (Mul rd ra rb) = work (Mul rd ra rb)
  plan_of (Idiv rd ra rb) = work (Idiv rd ra rb)
  plan_of (Bsrl rd ra rb) = work (Bsrl rd ra rb)
  plan_of (Bsra rd ra rb) = work (Bsra rd ra rb)
  plan_of (Bsll rd ra rb) = work (Bsll rd ra rb)
  plan_of (Addik rd ra imm) = work (Addik rd ra imm)
  plan_of (Ori rd ra imm) = work (Ori rd ra imm)
  plan_of (Andi rd ra imm) = work (Andi rd ra imm)
  plan_of (Xori rd ra imm) = work (Xori rd ra imm)
  plan_of (Lw rd ra rb) = work (Lw rd ra rb)
  plan_of (Sw rd ra rb) = work (Sw rd ra rb)
  plan_of (Lwi rd ra imm) = work (Lwi rd ra imm)
  plan_of (Swi rd ra imm) = work (Swi rd ra imm)
  plan_of (Imm imm) = Go class.Imm (record next_word { upper = Some imm })
  plan_of (Bri imm) = jump (branched imm)
  plan_of (Beqi ra imm) = test (Beqi ra imm) imm
  plan_of (Bnei ra imm) = test (Bnei ra imm) imm
  plan_of (Blti ra imm) = test (Blti ra imm) imm
  plan_of (Blei ra imm) = test (Blei ra imm) imm
  plan_of (Bgti ra imm) = test (Bgti ra imm) imm
  plan_of (Bgei ra imm) = test (Bgei ra imm) imm
  plan_of (Fork lo count) =
      in_turn (λ s.
      if not (is_listed image.forks place s (stack_of s u)) || nat_lt (length image.slots) (lo + count) then Refuse WrongPlace
      else rests class.Fork (unit.fork u s place lo (take count (drop lo image.slots)))
      )
  plan_of Eot =
      in_turn (λ s.
      if is_listed image.pauses place s (stack_of s u) then rests class.Eot (unit.pause u s place)
      else Refuse WrongPlace
      )
  plan_of End = in_turn (λ s. rests class.End (unit.finish u s))
  plan_of (Abrt j) = in_turn (λ s. enters s place j u (slice_get image.aborts j))
  plan_of Leave = in_turn (λ s. on class.Leave s (place + 1) (unit.leave u s))
  plan_of (Call to) = in_turn (λ s. on class.Call s to (unit.call u (place + 1)))
  plan_of Ret = in_turn (λ s. on_to class.Ret s (λ back. back) (unit.ret u))
  plan_of (Loop n) = in_turn (λ s. on class.Loop s (place + 1) (unit.loop_set u (turns_of upper n)))
  plan_of (Next to) = in_turn (λ s. on_to class.Next s (λ again. if again then place + 1 else to) (unit.loop_next u))
  plan_of Drop = in_turn (λ s. on class.Drop s (place + 1) (unit.drop_loop u))
  plan_of (Cend ra) = in_condition (Conclude ra u)

  abbrev pub plan_decoded : Option Instr → Plan
  plan_decoded None = Refuse BadWord
  plan_decoded (Some i) = if is_barred upper i then Refuse WrongPlace else plan_of i

  abbrev pub plan_word : Option ℕ → Plan
  plan_word None = Refuse OutOfCode
  plan_word (Some word) = plan_decoded (decoded word)

-- the step of who stands at a place
abbrev pub plan_for : Parts → Control → Option (Who × ℕ) → Plan
plan_for image c None = Rest
plan_for image c (Some j) = plan_word image j.0 j.1 c.upper c.unit (slice_get image.code j.1)

-- the step of a control
abbrev pub plan : Parts → Control → Plan
plan image c = plan_for image c (job c)
