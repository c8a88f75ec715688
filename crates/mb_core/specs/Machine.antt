-- What a machine is, and what its calls do.
use Rattle.std.specs.Prelude.{◌≡◌, ℕ, ℤ, List, Option, Some, None, Result, Ok, Err}
use Rattle.pt_image.specs.declared.Parts.{Parts}
use Rattle.mb_isa.specs.Run.{MachineState, Ticked, Ends, Trapped, loaded, tick_from}
use Rattle.mb_core.specs.declared.parts.Trap.{Trap}
use Rattle.mb_core.specs.Going.{CoreState}

-- what is seen of the machine's core between two ticks
abbrev pub state_in : CoreState → MachineState
state_in k = record { unit = k.unit; cells = k.cells }

-- an image with its costs, what the machine has come to, and the trap that has stopped it
pub record Whole : Type 0 where
  pub image : Parts
  pub costs : List ℕ
  pub state : MachineState
  pub trap : Option Trap

-- a loaded machine
abbrev pub fresh : Parts → List ℕ → Whole
fresh image costs = record { image = image; costs = costs; state = loaded image; trap = None }

abbrev pub tick_after : Option Trap → Whole → List ℤ → ℕ → Ticked
tick_after (Some trap) w values most = Trapped trap.kind trap.at 0
tick_after None w values most = tick_from w.image w.costs w.state values most

-- the tick of a machine, which is its trap again once one has stopped it
abbrev pub tick_of : Whole → List ℤ → ℕ → Ticked
tick_of w values most = tick_after w.trap w values most

-- a call does this tick: it answers the cycles and gives the outputs; or it answers the trap, leaves the
-- outputs, and has stopped the machine
abbrev pub Ticks : Ticked → Whole → List ℤ → Result ℕ Trap → Whole → List ℤ → Type 0
Ticks (Ends cycles outputs state) old before result new after =
    (result ≡ Ok cycles) × (new ≡ record old { state = state; trap = None }) × (after ≡ outputs)
Ticks (Trapped kind at charged) old before result new after =
    (result ≡ Err (record { kind = kind; at = at })) × (new.trap ≡ Some (record { kind = kind; at = at }))
    × (new.image ≡ old.image) × (new.costs ≡ old.costs) × (after ≡ before)
