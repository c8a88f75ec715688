-- What it means that a reader reads what a spelling spells: docs/files.md, "Lines and numbers".
use Rattle.std.specs.Prelude.{◌≡◌, ℕ, ◌<◌, ◌^◌, false, List, [], ◌∷◌, ◌++◌, length, Some}
use Rattle.std.specs.List.{AllByRecursion}
use Rattle.pt_base.specs.Bytes.{is_digit}
use Rattle.pt_base.specs.Reading.{Reader}

-- A value is read only where its spelling stands at the front, within its range. A value within its range that is spelled
-- at the front is read, where what follows it stops it.
pub record Reads {A : Type 0} (read : Reader A) (spell : A → List ℕ) (IsIn : A → Type 0) (Stops : List ℕ → Type 0) : Type 0 where
  pub found : (bytes : List ℕ) (x : A) (rest : List ℕ) → read bytes ≡ Some (x, rest) → IsIn x × (bytes ≡ spell x ++ rest)
  pub again : (x : A) (rest : List ℕ) → IsIn x → Stops rest → read (spell x ++ rest) ≡ Some (x, rest)

-- whatever follows
abbrev pub Anything : List ℕ → Type 0
Anything bytes = Unit {0}

-- no digit stands at the front
abbrev pub NoDigit : List ℕ → Type 0
NoDigit [] = Unit {0}
NoDigit (b ∷ bs) = is_digit b ≡ false

abbrev pub Below : ℕ → ℕ → Type 0
Below limit n = n < limit

-- a word of 32 bits
abbrev pub IsWord : ℕ → Type 0
IsWord n = n < 2 ^ 32

-- fewer than so many numbers below the limit
abbrev pub AreNumbers : ℕ → ℕ → List ℕ → Type 0
AreNumbers most limit ns = (length ns < most) × AllByRecursion (Below limit) ns

-- so many values, each within its range
abbrev pub AreMany : {A : Type 0} → ℕ → (A → Type 0) → List A → Type 0
AreMany count IsIn xs = (length xs ≡ count) × AllByRecursion IsIn xs
