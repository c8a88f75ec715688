-- How great a sum of numbers of 64 bits is.
use Rattle.std.specs.Prelude.{ℕ, ◌≤◌, ◌*◌, ◌^◌, Option, IfSome}

-- a number is at most so many times the greatest of 64 bits
abbrev pub IsSmall : ℕ → Option ℕ → Type 0
IsSmall count number = IfSome number (λ n. n ≤ count * 2 ^ 64)
