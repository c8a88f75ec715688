-- What a walk costs, and the worst of an image: docs/bounds.md, "The cost of a walk".
use Rattle.std.specs.Prelude.{◌≡◌, ℕ, ◌≤◌, List, [], map}
use Rattle.std.specs.List.{range_with_len}
use Rattle.mb_pfu.specs.declared.Slot.{Slot}
use Rattle.mb_pfu.specs.declared.Slot.TheVariants as slot
use Rattle.mb_pfu.specs.Tree.{slot_of}
use Rattle.mb_pfu.specs.Unit as unit
use Rattle.pt_image.specs.declared.Parts.{Parts}
use Rattle.mb_isa.specs.Free.{free, IsConfiguration}
use Rattle.mb_isa.specs.Tick.{Ends, tick}
use Rattle.tk_cert.specs.declared.cert.State.{State}
use Rattle.tk_cert.specs.declared.cert.State.TheVariants.{Free, Start, Paused, Waiting, Ended}
use Rattle.tk_cert.specs.declared.cert.Walk.{Walk}
use Rattle.tk_cert.specs.declared.cert.CertParts.{CertParts}
use Rattle.tk_paths.specs.Bounded.{IsAcceptedFor}

-- the most cycles that a walk may cost
abbrev pub most_cycles : ℕ
most_cycles = 1000000000000

-- what a walk says of a slot; in a configuration slot 0 alone is ready, and at its start
abbrev pub state_of : Slot → State
state_of slot.Free = Free
state_of (slot.Ready place) = Start
state_of (slot.Paused place) = Paused place
state_of (slot.Waiting at lo count) = Waiting at
state_of slot.Ended = Ended

-- what a walk says of the slots of a unit
abbrev pub states_of : unit.State → List State
states_of u = map (λ s. state_of (slot_of s u.tree)) (range_with_len 0 u.slots)

-- A tick begins in the configuration that the walk says, ends by its choices with none left, and is charged this.
pub record IsCostOf (image : Parts) (costs : List ℕ) (walk : Walk) (cost : ℕ) : Type 0 where
  pub begins : unit.State
  pub configuration : IsConfiguration image begins
  pub states : walk.states ≡ states_of begins
  pub last : unit.State
  pub ends : tick free image costs most_cycles begins walk.choices ≡ Ends cost last []
  pub within : cost ≤ most_cycles

-- the greatest cost of a walk
pub record IsWorst (image : Parts) (costs : List ℕ) (worst : ℕ) : Type 0 where
  pub walk : Walk
  pub attained : IsCostOf image costs walk worst
  pub greatest : (other : Walk) (cost : ℕ) → IsCostOf image costs other cost → cost ≤ worst

-- where all demands hold and the walk costs the bound, that is the worst
abbrev pub ReachedIsWorst : Type 0
ReachedIsWorst = (image : Parts) (cert : CertParts) (costs : List ℕ) → IsAcceptedFor image cert costs → IsCostOf image costs cert.walk cert.bound → IsWorst image costs cert.bound
