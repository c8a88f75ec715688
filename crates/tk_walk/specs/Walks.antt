-- What answers tell of the cost of a walk: docs/bounds.md, "The cost of a walk".
use Rattle.std.specs.Prelude.{◌≡◌, ℕ, ◌≤◌, Bool, List, [], Option, Some, None}
use Rattle.mb_pfu.specs.Unit.{State}
use Rattle.pt_image.specs.declared.Parts.{Parts}
use Rattle.mb_isa.specs.Free.{free, IsConfiguration}
use Rattle.mb_isa.specs.Tick.{Ends, tick}
use Rattle.tk_paths.specs.Walks.{states_of, IsCostOf}
use Rattle.tk_cert.specs.declared.cert.Walk.{Walk}

-- an answer gives the cost of a walk, or says that no number is its cost
abbrev pub Tells : Parts → List ℕ → Walk → Option ℕ → Type 0
Tells image costs walk (Some cost) = IsCostOf image costs walk cost
Tells image costs walk None = (cost : ℕ) → IsCostOf image costs walk cost → ⊥

-- the same, where no tick may be charged more than `most`
pub record IsCostWithin (image : Parts) (costs : List ℕ) (most : ℕ) (walk : Walk) (cost : ℕ) : Type 0 where
  pub begins : State
  pub configuration : IsConfiguration image begins
  pub states : walk.states ≡ states_of begins
  pub last : State
  pub ends : tick free image costs most begins walk.choices ≡ Ends cost last []
  pub within : cost ≤ most

abbrev pub TellsWithin : Parts → List ℕ → ℕ → Walk → Option ℕ → Type 0
TellsWithin image costs most walk (Some cost) = IsCostWithin image costs most walk cost
TellsWithin image costs most walk None = (cost : ℕ) → IsCostWithin image costs most walk cost → ⊥

-- an answer gives the cycles of the free tick from a unit that takes just these choices, or says that no number is it
abbrev pub IsTickCost : Parts → List ℕ → ℕ → State → List Bool → Option ℕ → Type 0
IsTickCost image costs most u choices (Some cost) = (last : State) × (tick free image costs most u choices ≡ Ends cost last []) × (cost ≤ most)
IsTickCost image costs most u choices None = (cost : ℕ) (last : State) → tick free image costs most u choices ≡ Ends cost last [] → ⊥
