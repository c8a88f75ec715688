-- Reading groups of lines one after another, up to the first that is at fault.
use Rattle.std.specs.Prelude.{ℕ, Option, Some, None, Result, Ok, Err}

infixl 10 ◌>>=◌
abbrev pub ◌>>=◌ : {A B : Type 0} → Result A ℕ → (A → Result B ℕ) → Result B ℕ
(Ok x) >>= f = f x
(Err e) >>= f = Err e

-- a group of lines that can't be read is the fault of this number
abbrev pub numbered : {A : Type 0} → ℕ → Option A → Result A ℕ
numbered number None = Err number
numbered number (Some x) = Ok x
