-- What a slot or a condition goes through in a free tick, whatever is round it: docs/bounds.md, "Tight certificates".
use Rattle.std.specs.Prelude.{◌≡◌, ℕ, ◌≤◌, Bool, List, [], ◌∷◌, ◌++◌}
use Rattle.mb_pfu.specs.Unit.{State}
use Rattle.pt_image.specs.declared.Parts.{Parts}
use Rattle.mb_isa.specs.Control.{Control, Turn, Condition, goes, tests_on, answered}
use Rattle.mb_isa.specs.Free.{free}
use Rattle.mb_isa.specs.Tick.{Steps}

-- no slot is inside a routine or a bounded loop
abbrev pub IsUnnested : State → Type 0
IsUnnested u = (u.links ≡ []) × (u.counters ≡ [])

module _ (image : Parts) (costs : List ℕ) where
  -- a free tick goes from one control to another at this cost by these choices, whatever choices follow
  pub record Leads (from : Control) (choices : List Bool) (cost : ℕ) (to : Control) : Type 0 where
    pub count : ℕ
    pub steps : (rest : List Bool) → Steps free image costs from (choices ++ rest) cost count to rest

  -- a slot's turn goes from one place to another at this cost, whatever is round the slot, and leaves the unit as it is
  pub record Passage (from cost to : ℕ) : Type 0 where
    pub costs_one : 1 ≤ cost
    pub choices : List Bool
    pub leads : (s : ℕ) (u : State) → IsUnnested u → Leads (goes (Turn s) from u) choices cost (goes (Turn s) to u)

  -- a condition that begins at this place comes to its end at this cost, with either answer
  pub record Asked (from cost : ℕ) : Type 0 where
    pub costs_one : 1 ≤ cost
    pub choices : List Bool
    pub leads : (holds : Bool) (u : State) → Leads (goes Condition from u) (choices ++ holds ∷ []) cost (tests_on (answered holds u))
