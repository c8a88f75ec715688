-- What the conditions of acceptance ask, one demand after another: docs/bounds.md, "Acceptance".
use Rattle.std.specs.Prelude.{ℕ, nat_le, Bool, false, IsTrue, if◌then◌else◌, List, [], ◌∷◌, Option, Some, None}
use Rattle.std.specs.List.{AllByRecursion}

-- A demand of a condition: where it is made, at which level, the smaller side and the other, and whether it holds.
pub record Demand : Type 0 where
  pub condition : ℕ
  pub at : ℕ
  pub level : ℕ
  pub needed : ℕ
  pub given : Option ℕ
  pub holds : Bool

-- a demand on kinds and words, which has no numbers
abbrev pub shape_demand : ℕ → ℕ → Bool → Demand
shape_demand condition at holds = record { condition = condition; at = at; level = 0; needed = 0; given = Some 0; holds = holds }

-- a number is there and reaches what is needed
abbrev pub reaches : Option ℕ → ℕ → Bool
reaches None needed = false
reaches (Some given) needed = nat_le needed given

-- A number is to reach another; where the other isn't there, nothing is asked.
abbrev pub at_least : ℕ → ℕ → ℕ → Option ℕ → Option ℕ → List Demand
at_least condition at level given None = []
at_least condition at level given (Some needed) =
    record { condition = condition; at = at; level = level; needed = needed; given = given; holds = reaches given needed } ∷ []

-- the first demand that doesn't hold
abbrev pub first_failing : List Demand → Option Demand
first_failing [] = None
first_failing (d ∷ ds) = if d.holds then first_failing ds else Some d

abbrev pub AllHold : List Demand → Type 0
AllHold ds = AllByRecursion (λ d. IsTrue d.holds) ds
