-- A step: what the data decide, and what is charged: docs/machine.md, "Traps" and "Cost classes".
use Rattle.std.specs.Prelude.{ℕ, ℤ, Bool, true, false, List, Option, Some, None}
use Rattle.mb_isa.specs.declared.registers.Reg.{Reg}
use Rattle.mb_isa.specs.declared.words.Instr.{Instr}
use Rattle.mb_isa.specs.declared.costs.Class.TheVariants as class
use Rattle.mb_isa.specs.Classes.{class_of}
use Rattle.mb_isa.specs.Costs.{cost_of}
use Rattle.mb_pfu.specs.declared.TrapKind.{TrapKind}
use Rattle.mb_pfu.specs.declared.TrapKind.TheVariants.{OutOfCode, BadAddress}
use Rattle.mb_pfu.specs.Tree.{next_test}
use Rattle.mb_pfu.specs.Unit.{State}
use Rattle.pt_image.specs.declared.Parts.{Parts}
use Rattle.mb_isa.specs.Control.{Control, tests_on, answered}
use Rattle.mb_isa.specs.Words.{Plan, Rest, Refuse, Go, Work, Branch, Conclude, plan}

-- What data decide in a tick.
pub record Rules (Data : Type 0) : Type 0 where
  -- what a word does that is no unit word and no branch, with the upper half that stands; none where its address is bad
  pub does : Instr → Option ℤ → Data → Option Data
  -- whether a conditional branch is taken; none where the data don't say
  pub taken : Instr → Data → Option (Bool × Data)
  -- whether a condition holds that ends with this register; none where the data don't say
  pub holds : Reg → Data → Option (Bool × Data)
  -- the inputs are sampled
  pub sampled : Data → Data

-- a step is done at a charge; or no slot is ready; or it traps; or the data don't say
pub data Stepped (Data : Type 0) : Type 0 where
  Moves : (charge : ℕ) → (next : Control) → (after : Data) → Stepped Data
  Rests : Stepped Data
  Traps : (kind : TrapKind) → Stepped Data
  Undecided : Stepped Data

module _ {Data : Type 0} (rules : Rules Data) where
  -- where no test is due, the inputs are sampled
  abbrev pub samples_from : Option (ℕ × ℕ) → Data → Data
  samples_from (Some t) d = d
  samples_from None d = rules.sampled d

  abbrev pub samples_on : State → Data → Data
  samples_on u d = samples_from (next_test u.tree) d

  module _ (costs : List ℕ) where
    abbrev pub worked : Instr → Control → Option Data → Stepped Data
    worked i next None = Traps BadAddress
    worked i next (Some d) = Moves (cost_of costs (class_of false i)) next d

    abbrev pub led : Option Control → Data → Stepped Data
    led None d = Traps OutOfCode
    led (Some next) d = Moves (cost_of costs class.Taken) next d

    abbrev pub decided : Option Control → Control → Bool → Data → Stepped Data
    decided taken untaken true d = led taken d
    decided taken untaken false d = Moves (cost_of costs class.Untaken) untaken d

    abbrev pub branched : Option Control → Control → Option (Bool × Data) → Stepped Data
    branched taken untaken None = Undecided
    branched taken untaken (Some p) = decided taken untaken p.0 p.1

    abbrev pub concluded : State → Option (Bool × Data) → Stepped Data
    concluded u None = Undecided
    concluded u (Some p) = Moves (cost_of costs class.Cend) (tests_on (answered p.0 u)) (samples_on (answered p.0 u) p.1)

    abbrev pub stepped : Data → Plan → Stepped Data
    stepped d Rest = Rests
    stepped d (Refuse kind) = Traps kind
    stepped d (Go class next) = Moves (cost_of costs class) next d
    stepped d (Work i upper next) = worked i next (rules.does i upper d)
    stepped d (Branch i taken untaken) = branched taken untaken (rules.taken i d)
    stepped d (Conclude ra u) = concluded u (rules.holds ra d)

    -- the next step
    abbrev pub step : Parts → Control → Data → Stepped Data
    step image c d = stepped d (plan image c)
