-- A form of several groups of lines, whose values have one text each.
use Rattle.std.specs.Prelude.{◌≡◌, ℕ, ◌-◌, ◌≤◌, List, [], ◌++◌, length, take}
use Rattle.pt_base.specs.Spelling.{joined}

-- The groups of lines of a value, in their order; the ranges of the first groups; the most bytes of a text; and how many
-- groups there are, the end of the text being the last.
pub record Form (P : Type 0) : Type 1 where
  pub groups : P → List (List ℕ)
  pub Ranges : ℕ → P → Type 0
  pub most : ℕ
  pub last : ℕ

-- The text begins with the first groups of lines of a value, which are within their ranges, and isn't too long.
-- With the last group, nothing stands behind them.
pub record Begins {P : Type 0} (form : Form P) (number : ℕ) (text : List ℕ) : Type 0 where
  pub value : P
  pub rest : List ℕ
  pub ranges : form.Ranges number value
  pub spelled : text ≡ joined (take number (form.groups value)) ++ rest
  pub short : 1 ≤ number → length text ≤ form.most
  pub ended : form.last ≤ number → rest ≡ []

-- the first group of lines that is at fault
pub record IsFault {P : Type 0} (form : Form P) (number : ℕ) (text : List ℕ) : Type 0 where
  pub low : 1 ≤ number
  pub high : number ≤ form.last
  pub before : Begins form (number - 1) text
  pub here : Begins form number text → ⊥
