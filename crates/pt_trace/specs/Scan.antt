-- A line read byte by byte. proofs/Scanning.antt shows that this gives the numbers of the line's words.
use Rattle.std.specs.Prelude.{ℕ, ◌+◌, ◌-◌, ◌*◌, ◌^◌, ◌==◌, min, ℤ, Bool, true, false, cond, List, [], ◌∷◌, slice_set, Option, Some, None}
use Rattle.pt_trace.specs.Trace.{is_blank, is_digit, signed_up_to, Reading, Row, Refused}
use Rattle.pt_trace.specs.declared.line.Scan.{Scan}
use Rattle.pt_trace.specs.declared.line.Scan.TheVariants.{Between, Minus, Digits}

-- a number that is too great under either sign
abbrev pub great : ℕ
great = 2147483649

abbrev pub is_negative : Scan → Bool
is_negative Between = false
is_negative Minus = true
is_negative (Digits negative value) = negative

abbrev pub value_at : Scan → ℕ
value_at Between = 0
value_at Minus = 0
value_at (Digits negative value) = value

abbrev pub after_digit : Scan → ℕ → Scan
after_digit s d = Digits (is_negative s) (min (value_at s * 10 + d) great)

abbrev pub after_minus : Scan → Option Scan
after_minus Between = Some Minus
after_minus Minus = None
after_minus (Digits negative value) = None

-- after a byte of a word, where the word can still be a number
abbrev pub after_byte : Scan → ℕ → Option Scan
after_byte s b = cond (b == 45) (after_minus s) (cond (is_digit b) (Some (after_digit s (b - 48))) None)

-- the number of a word that ends
abbrev pub number_at : Scan → Option ℤ
number_at Between = None
number_at Minus = None
number_at (Digits negative value) = signed_up_to (cond negative (2 ^ 31) (2 ^ 31 - 1)) negative (Some value)

-- a row, and how many numbers there were so far
abbrev pub Filled : Type 0
Filled = List ℤ × ℕ

-- a number past the end of the row is counted alone
abbrev pub placed : List ℤ → ℕ → Option ℤ → Option Filled
placed row count None = None
placed row count (Some z) = Some (slice_set row count z, count + 1)

-- at a blank or at the end of the line
abbrev pub ended : List ℤ → ℕ → Scan → Option Filled
ended row count Between = Some (row, count)
ended row count Minus = None
ended row count (Digits negative value) = placed row count (number_at (Digits negative value))

abbrev pub resumed : Option Filled → (List ℤ → ℕ → Option Filled) → Option Filled
resumed None f = None
resumed (Some p) f = f p.0 p.1

-- the rest of the line; no scan where a word is no number
abbrev pub scanned : List ℕ → List ℤ → ℕ → Option Scan → Option Filled
scanned bs row count None = None
scanned [] row count (Some s) = ended row count s
scanned (b ∷ bs) row count (Some s) = cond (is_blank b) (resumed (ended row count s) (λ r c. scanned bs r c (Some Between))) (scanned bs row count (after_byte s b))

-- the rule that refuses a line, or its row
abbrev pub judged : Option ℕ → List ℤ → Reading
judged None row = Row row
judged (Some rule) row = Refused rule

abbrev pub at_start : Option Scan
at_start = Some Between

abbrev pub digits : Bool → ℕ → Scan
digits negative value = Digits negative value
