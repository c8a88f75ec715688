-- What each class charges: docs/machine.md, "Cost classes".
use Rattle.std.specs.Prelude.{◌≡◌, ℕ, ◌+◌, ◌*◌, ◌<◌, ◌≤◌, List, [], ◌∷◌, All, length, slice_index_or}
use Rattle.mb_isa.specs.declared.costs.Class.{Class}
use Rattle.mb_isa.specs.declared.costs.Class.TheVariants.{Alu, Shift, Mul, Div, Imm, Load, Store, Jump, Taken, Untaken, Fork, Eot, End, Abrt, Leave, Call, Ret, Loop, Next, Drop, Cend, Tick}

-- the place of a class in the order of the table
abbrev pub place : Class → ℕ
place Alu = 0
place Shift = 1
place Mul = 2
place Div = 3
place Imm = 4
place Load = 5
place Store = 6
place Jump = 7
place Taken = 8
place Untaken = 9
place Fork = 10
place Eot = 11
place End = 12
place Abrt = 13
place Leave = 14
place Call = 15
place Ret = 16
place Loop = 17
place Next = 18
place Drop = 19
place Cend = 20
place Tick = 21

-- 22 numbers from 1 to 255
pub record IsCosts (numbers : List ℕ) : Type 0 where
  pub count : length numbers ≡ 22
  pub range : All (λ n. (1 ≤ n) × (n < 256)) numbers

-- what a class charges
abbrev pub cost_of : List ℕ → Class → ℕ
cost_of costs class = slice_index_or costs (place class) 0

-- what a tick itself is charged: once, once for each input and once for each output
abbrev pub tick_charge : List ℕ → ℕ → ℕ → ℕ
tick_charge costs inputs outputs = cost_of costs Tick * (1 + inputs + outputs)

-- each class charges 1
abbrev pub unit : List ℕ
unit = 1 ∷ 1 ∷ 1 ∷ 1 ∷ 1 ∷ 1 ∷ 1 ∷ 1 ∷ 1 ∷ 1 ∷ 1 ∷ 1 ∷ 1 ∷ 1 ∷ 1 ∷ 1 ∷ 1 ∷ 1 ∷ 1 ∷ 1 ∷ 1 ∷ 1 ∷ []
