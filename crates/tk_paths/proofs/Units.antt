-- What the words of a region do in a free tick: of a slot's turn and of a condition.
use Rattle.std.proofs.Common.{◌≡◌, ◌<◌, ◌+◌, ◌++◌, ◌==◌, ℕ, ℤ, zero, suc, Bool, true, false, if◌then◌else◌, List, [], ◌∷◌, length, slice_get, Option, Some, None, Ok, refl, sym, ap, ◌∙◌, subst, arith}
use Rattle.std.proofs.lemmas.Bool.Decides.{nat_tests}
use Rattle.std.proofs.lemmas.Option.{none-some, same_Some}
use Rattle.mb_isa.specs.declared.Reg.{Reg}
use Rattle.mb_isa.specs.declared.Instr.{Instr}
use Rattle.mb_isa.specs.declared.Instr.TheVariants as instr
use Rattle.mb_isa.specs.declared.Class.{Class}
use Rattle.mb_isa.specs.declared.Class.TheVariants as class
use Rattle.mb_isa.specs.Candidates.{decoded}
use Rattle.mb_isa.specs.Classes.{class_of}
use Rattle.mb_isa.specs.Costs.{cost_of}
use Rattle.mb_pfu.specs.declared.TrapKind.TheVariants.{WrongPlace, TableFull}
use Rattle.mb_pfu.specs.Calls as calls
use Rattle.mb_pfu.specs.Calls.{last_from, last_of}
use Rattle.mb_pfu.specs.Tree.{next_test}
use Rattle.mb_pfu.specs.Unit.{State}
use Rattle.pt_image.specs.declared.Parts.{Parts}
use Rattle.mb_isa.specs.Control.{Control, Who, Turn, Condition, phase_at, goes, tests_on, answered}
use Rattle.mb_isa.specs.Words.{Plan, Refuse, Go, Work, plan_of, plan_word, plan_decoded, plan, is_barred, on, on_to, jump, goes_to}
use Rattle.mb_isa.specs.Words as plans
use Rattle.mb_isa.specs.Step.{Moves, samples_from, stepped, step}
use Rattle.mb_isa.specs.Free.{free}
use Rattle.tk_paths.specs.declared.word.Word.{Word}
use Rattle.tk_paths.specs.declared.word.Word.TheVariants.{Does, Imm, Jump, Branch, Call, Ret, Loop, Next, Drop, Cend}
use Rattle.tk_paths.specs.Words.{instr_at, instr_in, word_of, goal_of, read_instr, read}
use Rattle.tk_paths.specs.Kinds.{imm_in}
use Rattle.tk_paths.specs.Passages.{Leads}
use Rattle.tk_paths.specs.Regions.{behind_half, half, word_place, behind, IsWord, AreUnits, unit_word, half_cost, extra, word_cost, units_cost}
use Rattle.tk_paths.proofs.Moves.{no-lead, one-lead, joined-leads, costing}

-- a list's last number
pub last-added : (before : List ℕ) (x : ℕ) → last_of (before ++ x ∷ []) ≡ Some (before, x)
last-added [] x = refl
last-added (y ∷ before) x = ap (λ o. Some (last_from y o)) (last-added before x)

-- with one counter more
abbrev pub counting : State → ℕ → State
counting u k = record u { counters = u.counters ++ k ∷ [] }

imm-there : (o : Option Instr) (u : ℤ) → imm_in o ≡ Some u → o ≡ Some (instr.Imm u)
imm-there None u e = absurd (none-some u e)
imm-there (Some (instr.Imm v)) u e = ap (λ x. Some (instr.Imm x)) (same_Some v u e)
imm-there (Some other) u e = absurd (none-some u e)

module _ (image : Parts) (costs : List ℕ) where
  -- who is at a place, with an upper half or none
  abbrev at : Who → ℕ → Option ℤ → State → Control
  at who place upper u = record { phase = phase_at who place; unit = u; upper = upper }

  plan-at : (who : Who) (place : ℕ) (upper : Option ℤ) (u : State) → plan image (at who place upper u) ≡ plan_word image who place upper u (slice_get image.code place)
  plan-at (Turn s) place upper u = refl
  plan-at Condition place upper u = refl

  module _ (who : Who) (place : ℕ) (upper : Option ℤ) (u : State) where
    abbrev in_turn : (ℕ → Type 0) → Type 0
    in_turn P = (elim who as (λ _. Type 0) [ Turn s ↦ P s | Condition ↦ Unit {0} ])

    abbrev in_condition : Type 0 → Type 0
    in_condition P = (elim who as (λ _. Type 0) [ Turn s ↦ Unit {0} | Condition ↦ P ])

    -- the plan of a word
    abbrev Fits : Word → Plan → Type 0
    Fits (Does class) p = (i : Instr) × (class_of false i ≡ class) × (p ≡ Work i upper (goes who (place + 1) u))
    Fits (Imm imm) p = p ≡ Go class.Imm (at who (place + 1) (Some imm) u)
    Fits (Jump None) p = Unit {0}
    Fits (Jump (Some to)) p = p ≡ Go class.Jump (goes who to u)
    Fits (Branch None) p = Unit {0}
    Fits (Branch (Some to)) p = (i : Instr) × (p ≡ plans.Branch i (Some (goes who to u)) (goes who (place + 1) u))
    Fits (Call to) p = in_turn (λ s. p ≡ on class.Call s to (calls.call u (place + 1)))
    Fits Ret p = in_turn (λ s. p ≡ on_to class.Ret s (λ back. back) (calls.ret u))
    Fits (Loop turns) p = in_turn (λ s. p ≡ on class.Loop s (place + 1) (calls.loop_set u turns))
    Fits (Next to) p = in_turn (λ s. p ≡ on_to class.Next s (λ again. if again then place + 1 else to) (calls.loop_next u))
    Fits Drop p = in_turn (λ s. p ≡ on class.Drop s (place + 1) (calls.drop_loop u))
    Fits Cend p = in_condition ((ra : Reg) × (p ≡ plans.Conclude ra u))
    Fits other p = Unit {0}

  jump-fits : (who : Who) (place : ℕ) (upper : Option ℤ) (u : State) (o : Option ℕ) → Fits who place upper u (Jump o) (jump image who place upper u (goes_to image who place upper u o))
  jump-fits who place upper u None = tt
  jump-fits who place upper u (Some to) = refl

  branch-fits : (who : Who) (place : ℕ) (upper : Option ℤ) (u : State) (i : Instr) (o : Option ℕ) → Fits who place upper u (Branch o) (plans.Branch i (goes_to image who place upper u o) (goes who (place + 1) u))
  branch-fits who place upper u i None = tt
  branch-fits who place upper u i (Some to) = (i, refl)

  instr-fits : (who : Who) (place : ℕ) (upper : Option ℤ) (u : State) (i : Instr) → Fits who place upper u (word_of image place upper i) (plan_of image who place upper u i)
  instr-fits who place upper u (instr.Imm imm) = refl
  instr-fits who place upper u (instr.Bri imm) = jump-fits who place upper u (goal_of image place upper imm)
  instr-fits who place upper u (instr.Beqi ra imm) = branch-fits who place upper u (instr.Beqi ra imm) (goal_of image place upper imm)
  instr-fits who place upper u (instr.Bnei ra imm) = branch-fits who place upper u (instr.Bnei ra imm) (goal_of image place upper imm)
  instr-fits who place upper u (instr.Blti ra imm) = branch-fits who place upper u (instr.Blti ra imm) (goal_of image place upper imm)
  instr-fits who place upper u (instr.Blei ra imm) = branch-fits who place upper u (instr.Blei ra imm) (goal_of image place upper imm)
  instr-fits who place upper u (instr.Bgti ra imm) = branch-fits who place upper u (instr.Bgti ra imm) (goal_of image place upper imm)
  instr-fits who place upper u (instr.Bgei ra imm) = branch-fits who place upper u (instr.Bgei ra imm) (goal_of image place upper imm)
  instr-fits who place upper u (instr.Fork lo n) = tt
  instr-fits who place upper u instr.Eot = tt
  instr-fits who place upper u instr.End = tt
  instr-fits who place upper u (instr.Abrt j) = tt
  instr-fits who place upper u instr.Leave = tt
  instr-fits (Turn s) place upper u (instr.Call to) = refl
  instr-fits Condition place upper u (instr.Call to) = tt
  instr-fits (Turn s) place upper u instr.Ret = refl
  instr-fits Condition place upper u instr.Ret = tt
  instr-fits (Turn s) place upper u (instr.Loop n) = refl
  instr-fits Condition place upper u (instr.Loop n) = tt
  instr-fits (Turn s) place upper u (instr.Next to) = refl
  instr-fits Condition place upper u (instr.Next to) = tt
  instr-fits (Turn s) place upper u instr.Drop = refl
  instr-fits Condition place upper u instr.Drop = tt
  instr-fits (Turn s) place upper u (instr.Cend ra) = tt
  instr-fits Condition place upper u (instr.Cend ra) = (ra, refl)
  instr-fits who place upper u other = (other, refl, refl)

  word-fits : (who : Who) (place : ℕ) (upper : Option ℤ) (u : State) (w : Word) → read image place upper ≡ Some w → Fits who place upper u w (plan image (at who place upper u))
  word-fits who place upper u w h =
      let P : Plan → Type 0 = Fits who place upper u w in
      subst P (sym (plan-at who place upper u)) (by (slice_get image.code place) h)
    where
      decoding : (o : Option Instr) → read_instr image place upper o ≡ Some w → Fits who place upper u w (plan_decoded image who place upper u o)
      decoding None e = absurd (none-some w e)
      decoding (Some i) e = barring (is_barred upper i) e
        where
          barring : (b : Bool) → (if b then None else Some (word_of image place upper i)) ≡ Some w → Fits who place upper u w (if b then Refuse WrongPlace else plan_of image who place upper u i)
          barring true k = absurd (none-some w k)
          barring false k =
              let W : Word → Type 0 = λ x. Fits who place upper u x (plan_of image who place upper u i) in
              subst W (same_Some (word_of image place upper i) w k) (instr-fits who place upper u i)

      by : (o : Option ℕ) → read_instr image place upper (instr_in o) ≡ Some w → Fits who place upper u w (plan_word image who place upper u o)
      by None e = absurd (none-some w e)
      by (Some word) e = decoding (decoded word) e

  -- one step at a place
  abbrev StepsTo : Who → ℕ → Option ℤ → State → List Bool → ℕ → Control → Type 0
  StepsTo who place upper u choices n next = (rest : List Bool) → step free costs image (at who place upper u) (choices ++ rest) ≡ Moves n next rest

  pub does-step : (who : Who) (place : ℕ) (upper : Option ℤ) (u : State) (c : Class) → read image place upper ≡ Some (Does c) → StepsTo who place upper u [] (cost_of costs c) (goes who (place + 1) u)
  does-step who place upper u c h rest =
      let f = word-fits who place upper u (Does c) h in
      ap (stepped free costs rest) f.2 ∙ ap (λ x. Moves (cost_of costs x) (goes who (place + 1) u) rest) f.1

  pub jump-step : (who : Who) (place : ℕ) (upper : Option ℤ) (u : State) (to : ℕ) → read image place upper ≡ Some (Jump (Some to)) → StepsTo who place upper u [] (cost_of costs class.Jump) (goes who to u)
  jump-step who place upper u to h rest = ap (stepped free costs rest) (word-fits who place upper u (Jump (Some to)) h)

  pub taken-step : (who : Who) (place : ℕ) (upper : Option ℤ) (u : State) (to : ℕ) → read image place upper ≡ Some (Branch (Some to)) → StepsTo who place upper u (true ∷ []) (cost_of costs class.Taken) (goes who to u)
  taken-step who place upper u to h rest = ap (stepped free costs (true ∷ rest)) (word-fits who place upper u (Branch (Some to)) h).1

  pub untaken-step : (who : Who) (place : ℕ) (upper : Option ℤ) (u : State) (to : ℕ) → read image place upper ≡ Some (Branch (Some to)) → StepsTo who place upper u (false ∷ []) (cost_of costs class.Untaken) (goes who (place + 1) u)
  untaken-step who place upper u to h rest = ap (stepped free costs (false ∷ rest)) (word-fits who place upper u (Branch (Some to)) h).1

  -- a condition ends with either answer; where no test is due, sampling leaves the choices as they are
  samples-same : (o : Option (ℕ × ℕ)) (d : List Bool) → samples_from free o d ≡ d
  samples-same None d = refl
  samples-same (Some t) d = refl

  pub cend-step : (place : ℕ) (u : State) (holds : Bool) → IsWord image place Cend → StepsTo Condition place None u (holds ∷ []) (cost_of costs class.Cend) (tests_on (answered holds u))
  cend-step place u holds h rest =
      let f = word-fits Condition place None u Cend h in
      ap (stepped free costs (holds ∷ rest)) f.1
      ∙ ap (Moves (cost_of costs class.Cend) (tests_on (answered holds u))) (samples-same (next_test (answered holds u).tree) rest)

  pub call-step : (s place : ℕ) (u : State) (to : ℕ) → IsWord image place (Call to) → length u.links < 16 → StepsTo (Turn s) place None u [] (cost_of costs class.Call) (goes (Turn s) to (record u { links = u.links ++ (place + 1) ∷ [] }))
  call-step s place u to h few rest =
      let room : (length u.links == 16) ≡ false = grind (arith, nat_tests, few) in
      let u' : State = record u { links = u.links ++ (place + 1) ∷ [] } in
      ap (stepped free costs rest) (word-fits (Turn s) place None u (Call to) h ∙ ap (λ b. on class.Call s to (calls.unless b TableFull (Ok u'))) room)

  -- with one link more than `u` has
  pub ret-step : (s place : ℕ) (u : State) (back : ℕ) → IsWord image place Ret → StepsTo (Turn s) place None (record u { links = u.links ++ back ∷ [] }) [] (cost_of costs class.Ret) (goes (Turn s) back u)
  ret-step s place u back h rest =
      let more : State = record u { links = u.links ++ back ∷ [] } in
      ap (stepped free costs rest)
      (word-fits (Turn s) place None more Ret h
      ∙ ap (λ o. on_to class.Ret s (λ x. x) (calls.on_last o (λ before x. (record more { links = before }, x)))) (last-added u.links back))

  pub loop-step : (s place : ℕ) (upper : Option ℤ) (u : State) (turns : ℕ) → read image place upper ≡ Some (Loop turns) → length u.counters < 136 → StepsTo (Turn s) place upper u [] (cost_of costs class.Loop) (goes (Turn s) (place + 1) (counting u turns))
  loop-step s place upper u turns h few rest =
      let room : (length u.counters == 136) ≡ false = grind (arith, nat_tests, few) in
      ap (stepped free costs rest) (word-fits (Turn s) place upper u (Loop turns) h ∙ ap (λ b. on class.Loop s (place + 1) (calls.unless b TableFull (Ok (counting u turns)))) room)

  next-plan : (s place : ℕ) (u : State) (to k : ℕ) → IsWord image place (Next to) →
      plan image (at (Turn s) place None (counting u k)) ≡ on_to class.Next s (λ again. if again then place + 1 else to) (Ok (calls.counted (counting u k) u.counters k))
  next-plan s place u to k h =
      word-fits (Turn s) place None (counting u k) (Next to) h
      ∙ ap (λ o. on_to class.Next s (λ again. if again then place + 1 else to) (calls.on_last o (calls.counted (counting u k)))) (last-added u.counters k)

  pub again-step : (s place : ℕ) (u : State) (to k : ℕ) → IsWord image place (Next to) → StepsTo (Turn s) place None (counting u (suc k)) [] (cost_of costs class.Next) (goes (Turn s) (place + 1) (counting u k))
  again-step s place u to k h rest = ap (stepped free costs rest) (next-plan s place u to (suc k) h)

  pub over-step : (s place : ℕ) (u : State) (to : ℕ) → IsWord image place (Next to) → StepsTo (Turn s) place None (counting u 0) [] (cost_of costs class.Next) (goes (Turn s) to u)
  over-step s place u to h rest = ap (stepped free costs rest) (next-plan s place u to 0 h)

  pub drop-step : (s place : ℕ) (u : State) (k : ℕ) → IsWord image place Drop → StepsTo (Turn s) place None (counting u k) [] (cost_of costs class.Drop) (goes (Turn s) (place + 1) u)
  drop-step s place u k h rest =
      let more = counting u k in
      ap (stepped free costs rest)
      (word-fits (Turn s) place None more Drop h ∙ ap (λ o. on class.Drop s (place + 1) (calls.on_last o (λ before turns. record more { counters = before }))) (last-added u.counters k))

  -- a word with no upper half
  pub word-lead : (who : Who) (place : ℕ) (u : State) (choices : List Bool) (n : ℕ) (next : Control) → StepsTo who place None u choices n next → Leads image costs (goes who place u) choices n next
  word-lead who place u choices n next h = one-lead image costs (goes who place u) next choices n h

  -- the upper half of a unit
  half-lead : (who : Who) (place : ℕ) (u : State) → Leads image costs (goes who place u) [] (extra image costs place) (at who (word_place image place) (half image place) u)
  half-lead who place u = by (half image place) refl
    where
      by : (o : Option ℤ) → half image place ≡ o → Leads image costs (goes who place u) [] (half_cost image costs o) (at who (behind_half o place) o u)
      by None e = no-lead image costs (goes who place u)
      by (Some upper) e =
          let there : IsWord image place (Imm upper) = ap (read_instr image place None) (imm-there (instr_at image place) upper e) in
          one-lead image costs (goes who place u) (at who (place + 1) (Some upper) u) [] (cost_of costs class.Imm)
          (λ rest. ap (stepped free costs rest) (word-fits who place None u (Imm upper) there))

  pub unit-lead : (who : Who) (place : ℕ) (u : State) (choices : List Bool) (n : ℕ) (next : Control) → StepsTo who (word_place image place) (half image place) u choices n next → Leads image costs (goes who place u) choices (extra image costs place + n) next
  unit-lead who place u choices n next h =
      joined-leads image costs (goes who place u) (at who (word_place image place) (half image place) u) next [] choices (extra image costs place) n (half-lead who place u)
      (one-lead image costs (at who (word_place image place) (half image place) u) next choices n h)

  -- straight code
  pub units-lead : (who : Who) (count place end : ℕ) (u : State) → AreUnits image place count end → Leads image costs (goes who place u) [] (units_cost image costs place count) (goes who end u)
  units-lead who zero place end u l = let L : ℕ → Type 0 = λ x. Leads image costs (goes who place u) [] 0 (goes who x u) in subst L l (no-lead image costs (goes who place u))
  units-lead who (suc count) place end u l =
      let c = l.0 in
      let same : word_cost image costs (unit_word image place) ≡ cost_of costs c = ap (word_cost image costs) l.1 in
      let first = unit-lead who place u [] (cost_of costs c) (goes who (behind image place) u) (does-step who (word_place image place) (half image place) u c l.1) in
      joined-leads image costs (goes who place u) (goes who (behind image place) u) (goes who end u) [] [] (extra image costs place + word_cost image costs (unit_word image place)) (units_cost image costs (behind image place) count)
      (costing image costs (goes who place u) (goes who (behind image place) u) [] (extra image costs place + cost_of costs c) (extra image costs place + word_cost image costs (unit_word image place)) (omega (arith, same)) first)
      (units-lead who count (behind image place) end u l.2)
