-- A whole tick: docs/machine.md, "Tick".
use Rattle.std.specs.Prelude.{◌≡◌, ℕ, zero, suc, ◌+◌, ◌≤◌, nat_lt, if◌then◌else◌, List, length}
use Rattle.mb_isa.specs.Costs.{tick_charge}
use Rattle.mb_pfu.specs.declared.TrapKind.{TrapKind}
use Rattle.mb_pfu.specs.declared.TrapKind.TheVariants.{Late, BadAddress}
use Rattle.mb_pfu.specs.Tree.{tests_begun}
use Rattle.mb_pfu.specs.Unit.{State}
use Rattle.pt_image.specs.declared.Parts.{Parts}
use Rattle.mb_isa.specs.Control.{Control, place_of, tests_on}
use Rattle.mb_pfu.specs.Calls.{with_tree}
use Rattle.mb_isa.specs.Step.{Rules, Stepped, Moves, Rests, Traps, Undecided, step, samples_on}

-- a tick ends with its cycles, the unit and the data; or it traps at a place, with what was charged so far; or it stops
-- with what was charged so far where the data don't say how to go on
pub data Outcome (Data : Type 0) : Type 0 where
  Ends : (cycles : ℕ) → (unit : State) → (after : Data) → Outcome Data
  Trapped : (kind : TrapKind) → (at charged : ℕ) → Outcome Data
  Open : (charged : ℕ) → Outcome Data

-- (1) what the tick itself is charged
abbrev pub base_of : Parts → List ℕ → ℕ
base_of image costs = tick_charge costs (length image.inputs) (length image.outputs)

-- every entry is aged and not fired, and its condition is due
abbrev pub begun : State → State
begun u = with_tree (tests_begun u.tree) u

module _ {Data : Type 0} (rules : Rules Data) (image : Parts) (costs : List ℕ) where
  -- a step whose charge would pass `most` is late, and isn't done
  abbrev pub after_step : (ℕ → Control → Data → Outcome Data) → ℕ → ℕ → Control → Data → Stepped Data → Outcome Data
  after_step go most charged c d (Moves charge next after) = if nat_lt most (charged + charge) then Trapped Late (place_of c) charged else go (charged + charge) next after
  after_step go most charged c d Rests = Ends charged c.unit d
  after_step go most charged c d (Traps kind) = Trapped kind (place_of c) charged
  after_step go most charged c d Undecided = Open charged

  -- steps, until no slot is ready; each takes one from the fuel, which is more than a tick can use, since each is charged at least 1
  unfoldable pub run : ℕ → ℕ → ℕ → Control → Data → Outcome Data
  run zero most charged c d = Trapped Late 0 charged
  run (suc fuel) most charged c d = after_step (run fuel most) most charged c d (step rules costs image c d)

  -- the tick from a unit and data: the conditions of the due tests, then sampling and waking, then the turns
  abbrev pub tick : ℕ → State → Data → Outcome Data
  tick most u d =
      if nat_lt most (base_of image costs) then Trapped Late 0 0
      else run (suc most) most (base_of image costs) (tests_on (begun u)) (samples_on rules (begun u) d)

  -- a path of so many steps within a tick, and the sum of their charges
  pub data Steps : Control → Data → ℕ → ℕ → Control → Data → Type 0 where
    still : {c : Control} {d : Data} → Steps c d 0 0 c d
    onward : {c next last : Control} {d after end : Data} {charge rest count : ℕ} → step rules costs image c d ≡ Moves charge next after → Steps next after rest count last end → Steps c d (charge + rest) (suc count) last end

-- a tick ends, or a bad address stops it, within so many cycles
abbrev pub IsSafeWithin : {Data : Type 0} → ℕ → Outcome Data → Type 0
IsSafeWithin bound (Ends cycles unit after) = cycles ≤ bound
IsSafeWithin bound (Trapped kind at charged) = (kind ≡ BadAddress) × (charged ≤ bound)
IsSafeWithin bound (Open charged) = ⊥

-- Controls that are good, each with a number that pays for its step and for what comes after it.
pub record Pays {Data : Type 0} (rules : Rules Data) (image : Parts) (costs : List ℕ) (IsGood : Control → Type 0) (worth : Control → ℕ) : Type 0 where
  pub onward : (c next : Control) (d after : Data) (charge : ℕ) → IsGood c → step rules costs image c d ≡ Moves charge next after → IsGood next × (charge + worth next ≤ worth c)
  pub traps : (c : Control) (d : Data) (kind : TrapKind) → IsGood c → step rules costs image c d ≡ Traps kind → kind ≡ BadAddress
  pub says : (c : Control) (d : Data) → IsGood c → step rules costs image c d ≡ Undecided → ⊥
