-- The lines of a trace and the numbers on a line: docs/files.md, "The trace".
use Rattle.std.specs.Prelude.{ℕ, ◌+◌, ◌-◌, ◌*◌, ◌^◌, ◌==◌, ◌&&◌, ◌||◌, ℤ, pos, neg_ℤ, Bool, true, false, cond, nat_lt, nat_le, List, [], ◌∷◌, length, take, slice_get, Option, Some, None}
use Rattle.std.specs.List.{filter, list_all}

-- the bytes of a line before its line feed or the end of the input, and whether a line feed ends it
pub record Line : Type 0 where
  pub bytes : List ℕ
  pub ended : Bool

-- a byte that isn't a line feed, before these lines
abbrev pub begins : ℕ → List Line → List Line
begins b [] = record { bytes = b ∷ []; ended = false } ∷ []
begins b (l ∷ ls) = record { bytes = b ∷ l.bytes; ended = l.ended } ∷ ls

-- a line feed ends each line; a last line without one counts where it has a byte
abbrev pub lines : List ℕ → List Line
lines [] = []
lines (b ∷ bs) = cond (b == 10) (record { bytes = []; ended = true } ∷ lines bs) (begins b (lines bs))

abbrev pub is_return : Option ℕ → Bool
is_return None = false
is_return (Some b) = b == 13

-- a carriage return directly before the line feed is passed over
abbrev pub content : Line → List ℕ
content l = cond (l.ended && is_return (slice_get l.bytes (length l.bytes - 1))) (take (length l.bytes - 1) l.bytes) l.bytes

abbrev pub is_blank : ℕ → Bool
is_blank b = b == 32 || b == 9

abbrev pub grows : ℕ → List (List ℕ) → List (List ℕ)
grows b [] = (b ∷ []) ∷ []
grows b (p ∷ ps) = (b ∷ p) ∷ ps

-- what stands between the blanks and tabs: one piece more than there are of these
abbrev pub pieces : List ℕ → List (List ℕ)
pieces [] = [] ∷ []
pieces (b ∷ bs) = cond (is_blank b) ([] ∷ pieces bs) (grows b (pieces bs))

abbrev pub has_bytes : List ℕ → Bool
has_bytes [] = false
has_bytes (b ∷ bs) = true

-- the words of a line: the pieces that have a byte
abbrev pub words : List ℕ → List (List ℕ)
words bytes = filter has_bytes (pieces bytes)

abbrev pub is_digit : ℕ → Bool
is_digit b = nat_le 48 b && nat_le b 57

-- the number that digits write after those of n
abbrev pub value_after : ℕ → List ℕ → ℕ
value_after n [] = n
value_after n (d ∷ ds) = value_after (n * 10 + (d - 48)) ds

-- the number of one or more digits
abbrev pub natural : List ℕ → Option ℕ
natural [] = None
natural (d ∷ ds) = cond (list_all is_digit (d ∷ ds)) (Some (value_after 0 (d ∷ ds))) None

-- a number of at most this size, with its sign
abbrev pub signed_up_to : ℕ → Bool → Option ℕ → Option ℤ
signed_up_to most negative None = None
signed_up_to most negative (Some n) = cond (nat_le n most) (Some (cond negative (neg_ℤ (pos n)) (pos n))) None

-- the number that a word writes: an optional `-` and digits, from -2147483648 to 2147483647
abbrev pub number : List ℕ → Option ℤ
number [] = None
number (b ∷ bs) = cond (b == 45) (signed_up_to (2 ^ 31) true (natural bs)) (signed_up_to (2 ^ 31 - 1) false (natural (b ∷ bs)))

abbrev pub before : Option ℤ → Option (List ℤ) → Option (List ℤ)
before None zs = None
before (Some z) None = None
before (Some z) (Some zs) = Some (z ∷ zs)

-- the numbers of the words, where each word is one
abbrev pub numbers : List (List ℕ) → Option (List ℤ)
numbers [] = Some []
numbers (w ∷ ws) = before (number w) (numbers ws)

-- what a line gives: a row of inputs, or the number of the rule that refuses it
pub data Reading : Type 0 where
  Row : List ℤ → Reading
  Refused : ℕ → Reading

-- a count of numbers that is the width
abbrev pub counted : ℕ → Option (List ℤ) → Reading
counted width None = Refused 1
counted width (Some zs) = cond (length zs == width) (Row zs) (Refused 2)

-- line k, by the rules T3, T4, T1 and T2 in this order
abbrev pub reading : ℕ → ℕ → Line → Reading
reading width k l = cond (nat_lt 1000000 k) (Refused 3) (cond (nat_lt 1024 (length l.bytes)) (Refused 4) (counted width (numbers (words (content l)))))
