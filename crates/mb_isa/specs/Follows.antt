-- Data that can decide whatever other data decided: their ticks go the same way.
use Rattle.std.specs.Prelude.{◌≡◌, ◌⊎◌, ℕ, ℤ, Bool, List, Option, Some, ◌+◌}
use Rattle.mb_isa.specs.declared.registers.Reg.{Reg}
use Rattle.mb_isa.specs.declared.words.Instr.{Instr}
use Rattle.mb_pfu.specs.declared.TrapKind.TheVariants.{BadAddress}
use Rattle.mb_pfu.specs.Unit.{State}
use Rattle.pt_image.specs.declared.Parts.{Parts}
use Rattle.mb_isa.specs.Control.{Control, tests_on, place_of}
use Rattle.mb_isa.specs.Words.{plan, Plan, Work}
use Rattle.mb_isa.specs.Step.{Rules, samples_on}
use Rattle.mb_isa.specs.Tick.{Outcome, Ends, Trapped, Open, tick, base_of, begun, Steps}

-- Whatever some data decided and became: for any other data to become there are data that decide the same and become them.
pub record Follow {Data Other : Type 0} (rules : Rules Data) (others : Rules Other) : Type 0 where
  pub does : (i : Instr) (upper : Option ℤ) (d after : Data) (end : Other) → rules.does i upper d ≡ Some after → (e : Other) × (others.does i upper e ≡ Some end)
  pub taken : (i : Instr) (d after : Data) (b : Bool) (end : Other) → rules.taken i d ≡ Some (b, after) → (e : Other) × (others.taken i e ≡ Some (b, end))
  pub holds : (ra : Reg) (d after : Data) (b : Bool) (end : Other) → rules.holds ra d ≡ Some (b, after) → (e : Other) × (others.holds ra e ≡ Some (b, end))
  pub sampled : (end : Other) → (e : Other) × (others.sampled e ≡ end)

-- the data always say
pub record Decide {Data : Type 0} (rules : Rules Data) : Type 0 where
  pub taken : (i : Instr) (d : Data) → (p : Bool × Data) × (rules.taken i d ≡ Some p)
  pub holds : (ra : Reg) (d : Data) → (p : Bool × Data) × (rules.holds ra d ≡ Some p)

-- the data do the next word
abbrev pub DoesWork : Plan → Type 0
DoesWork p = (i : Instr) × (upper : Option ℤ) × (next : Control) × (p ≡ Work i upper next)

module _ {Other : Type 0} (others : Rules Other) (image : Parts) (costs : List ℕ) where
  -- a tick from here is charged so much more and stands at a word that the data do
  pub record Reaches (c : Control) (e : Other) (at charged to : ℕ) (end : Other) : Type 0 where
    pub spent : ℕ
    pub count : ℕ
    pub last : Control
    pub path : Steps others image costs c e spent count last end
    pub charged_is : to ≡ charged + spent
    pub place_is : at ≡ place_of last
    pub stands : DoesWork (plan image last)

  -- For each end of a tick there are other data with which the tick ends so. Where a bad address stopped it, the other
  -- tick stands at that place with the same charges, and may go on.
  abbrev pub IsFollowed : {Data : Type 0} → ℕ → State → Other → Outcome Data → Type 0
  IsFollowed most u end (Ends cycles unit after) = (e : Other) × (tick others image costs most u e ≡ Ends cycles unit end)
  IsFollowed most u end (Trapped kind at charged) =
      ((e : Other) × (tick others image costs most u e ≡ Trapped kind at charged))
      ⊎ (kind ≡ BadAddress) × ((e : Other) × Reaches (tests_on (begun u)) (samples_on others (begun u) e) at (base_of image costs) charged end)
  IsFollowed most u end (Open charged) = ⊥
