-- The texts of numbers and their room.
use Rattle.std.proofs.Common.{◌≡◌, ◌<◌, ◌≤◌, ◌+◌, ◌/◌, ◌%◌, ◌^◌, ℕ, [], ◌∷◌, length, ap, ◌∙◌, arith}
use Rattle.std.proofs.lemmas.List.{length-append}
use Rattle.std.specs.Fmt.{decimal}
use Rattle.std.proofs.lemmas.Fmt.{decimal_digit, decimal_step_wide, length-decimal-le, length-decimal-le_wide}

pub length-digit : (n : ℕ) → n < 10 → length (decimal n) ≡ 1
length-digit n h = ap length (decimal_digit n h)

pub length-step : (n : ℕ) → 10 ≤ n → n < 10 ^ 64 → length (decimal n) ≡ length (decimal (n / 10)) + 1
length-step n h small = ap length (decimal_step_wide n h small) ∙ length-append (decimal (n / 10)) ((48 + n % 10) ∷ [])

pub decimal_room : (n : ℕ) → n < 2 ^ 64 → length (decimal n) ≤ 20
decimal_room n h = length-decimal-le 20 n (omega arith) (omega arith) h

pub word_room : (n : ℕ) → n < 10 ^ 10 → length (decimal n) ≤ 10
word_room n h = length-decimal-le 10 n (omega arith) h (omega arith)

pub wide_room : (n : ℕ) → n < 2 ^ 128 → length (decimal n) ≤ 39
wide_room n h = length-decimal-le_wide 39 n (omega arith) (omega (arith, h)) (omega (arith, h))

-- a number of 128 bits has few digits
pub wide_small : (n : ℕ) → n < 2 ^ 128 → n < 10 ^ 64
wide_small n h = omega (arith, h)
