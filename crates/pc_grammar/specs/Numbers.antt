-- Bytes that make words and numbers: docs/language.md, "Tokens".
use Rattle.std.specs.Prelude.{ℕ, ◌+◌, ◌-◌, ◌*◌, ◌^◌, Bool, true, false, not, ◌||◌, ◌&&◌, List, [], ◌∷◌, Option, Some, None, length, drop, nat_lt, nat_eq, if◌then◌else◌, codes}
use Rattle.std.specs.List.{list_all, starts_with}
use Rattle.pt_base.specs.Bytes.{is_digit}

-- letters, digits and `_`
abbrev pub is_word : ℕ → Bool
is_word b = is_digit b || (nat_lt 64 b && nat_lt b 91) || (nat_lt 96 b && nat_lt b 123) || nat_eq b 95

-- digits, and the letters from a to f of either case
abbrev pub is_hexadecimal : ℕ → Bool
is_hexadecimal b = is_digit b || (nat_lt 64 b && nat_lt b 71) || (nat_lt 96 b && nat_lt b 103)

-- what a digit counts
abbrev pub digit_value : ℕ → ℕ
digit_value b = if nat_lt b 58 then b - 48 else (if nat_lt b 71 then b - 55 else b - 87)

-- what digits spell in a base: each counts by the power of the base that its place has
abbrev pub value_of : ℕ → List ℕ → ℕ
value_of base [] = 0
value_of base (d ∷ rest) = digit_value d * base ^ length rest + value_of base rest

-- one digit, or more that don't begin with 0
abbrev pub has_no_leading_zero : List ℕ → Bool
has_no_leading_zero [] = false
has_no_leading_zero (d ∷ []) = true
has_no_leading_zero (d ∷ e ∷ rest) = not (nat_eq d 48)

abbrev pub is_some_digits : List ℕ → Bool
is_some_digits [] = false
is_some_digits (d ∷ rest) = true

unfoldable pub decimal_of : List ℕ → Option ℕ
decimal_of digits = if list_all is_digit digits && has_no_leading_zero digits then Some (value_of 10 digits) else None

unfoldable pub hexadecimal_of : List ℕ → Option ℕ
hexadecimal_of digits = if list_all is_hexadecimal digits && is_some_digits digits then Some (value_of 16 digits) else None

-- the number that a run spells: `0`, digits without a leading 0, or `0x` and hexadecimal digits
unfoldable pub number_of : List ℕ → Option ℕ
number_of run = if starts_with nat_eq run (codes "0x") then hexadecimal_of (drop 2 run) else decimal_of run

-- a number where it is one of 32 bits
abbrev pub within_32_bits : Option ℕ → Option ℕ
within_32_bits None = None
within_32_bits (Some value) = if nat_lt value 4294967296 then Some value else None
