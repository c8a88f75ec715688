-- What is read at the front of a text, and what follows it.
use Rattle.std.specs.Prelude.{◌≡◌, Result, Ok, Err, ℕ, zero, suc, ◌+◌, ◌-◌, ◌*◌, ◌^◌, ℤ, pos, negsuc, Bool, ◌&&◌, nat_lt, nat_le, ◌==◌, List, [], ◌∷◌, Option, Some, None, if◌then◌else◌}
use Rattle.pt_base.specs.Bytes.{is_digit}
use Rattle.pt_base.specs.declared.fault.Unread.{Unread}
use Rattle.pt_base.specs.declared.fault.Unread.TheVariants.{Form, Memory}

-- a fault of form is that nothing can be read
abbrev pub Fails : {Y : Type 0} → Unread → Option Y → Type 0
Fails Form read = read ≡ None
Fails Memory read = Unit {0}

-- What a function gave, seen by view, is what reading gives, unless memory ran out.
abbrev pub Gives : {X Y : Type 0} → (X → Y) → Result X Unread → Option Y → Type 0
Gives view (Ok x) read = read ≡ Some (view x)
Gives view (Err e) read = Fails e read

infixl 10 ◌>>=◌
abbrev pub ◌>>=◌ : {A B : Type 0} → Option A → (A → Option B) → Option B
None >>= f = None
(Some x) >>= f = f x

-- a reader of values of a type
abbrev pub Reader : Type 0 → Type 0
Reader A = List ℕ → Option (A × List ℕ)

-- what follows one byte
abbrev pub past_at : ℕ → List ℕ → Option (List ℕ)
past_at c [] = None
past_at c (b ∷ bs) = if b == c then Some bs else None

-- what follows these bytes
abbrev pub past_all_at : List ℕ → List ℕ → Option (List ℕ)
past_all_at [] bytes = Some bytes
past_all_at (c ∷ cs) bytes = past_at c bytes >>= λ rest. past_all_at cs rest

-- the digits at the front, behind those of the number so far, where the number stays below the limit
abbrev pub digits_at : ℕ → ℕ → Reader ℕ
digits_at limit n [] = Some (n, [])
digits_at limit n (b ∷ bs) = if is_digit b then (if nat_lt (10 * n + (b - 48)) limit then digits_at limit (10 * n + (b - 48)) bs else None) else Some (n, b ∷ bs)

-- the number at the front, without a leading 0, where it is below the limit
unfoldable pub number_at : ℕ → Reader ℕ
number_at limit [] = None
number_at limit (b ∷ bs) = if is_digit b && nat_lt 0 limit then (if b == 48 then Some (0, bs) else digits_at limit 0 (b ∷ bs)) else None

-- a number, and the byte that ends it
unfoldable pub number_then_at : ℕ → ℕ → Reader ℕ
number_then_at ends limit bytes = do
  n ← number_at limit bytes
  rest ← past_at ends n.1
  Some (n.0, rest)

-- a number behind a blank
unfoldable pub blank_number_at : ℕ → Reader ℕ
blank_number_at limit bytes = past_at 32 bytes >>= λ rest. number_at limit rest

-- so many values, one after another
abbrev pub many_at : {A : Type 0} → Reader A → ℕ → Reader (List A)
many_at read zero bytes = Some ([], bytes)
many_at read (suc n) bytes = do
  x ← read bytes
  xs ← many_at read n x.1
  Some (x.0 ∷ xs.0, xs.1)

-- fewer than `most` numbers behind their count
unfoldable pub list_at : ℕ → ℕ → Reader (List ℕ)
list_at most limit bytes = do
  n ← number_at most bytes
  many_at (blank_number_at limit) n.0 n.1

-- the same, and the byte that ends them
unfoldable pub numbers_at : ℕ → ℕ → ℕ → Reader (List ℕ)
numbers_at ends most limit bytes = do
  ns ← list_at most limit bytes
  rest ← past_at ends ns.1
  Some (ns.0, rest)

-- the number behind a `-`, which isn't 0
abbrev pub negative_of : ℕ × List ℕ → Option (ℤ × List ℕ)
negative_of n = if n.0 == 0 then None else Some (negsuc (n.0 - 1), n.1)

-- the number of a text, given what follows its `-` where it has one
abbrev pub signed_of : List ℕ → Option (List ℕ) → Option (ℤ × List ℕ)
signed_of bytes None = number_at (2 ^ 31) bytes >>= λ n. Some (pos n.0, n.1)
signed_of bytes (Some rest) = number_at (2 ^ 31 + 1) rest >>= negative_of

-- a signed number of 32 bits: a `-` stands before a negative number alone
unfoldable pub signed_at : Reader ℤ
signed_at bytes = signed_of bytes (past_at 45 bytes)

-- a signed number, and the line feed that ends it
unfoldable pub signed_line_at : Reader ℤ
signed_line_at bytes = do
  n ← signed_at bytes
  rest ← past_at 10 n.1
  Some (n.0, rest)

-- the value of a lower-case hexadecimal digit
abbrev pub digit_at : List ℕ → Option (ℕ × List ℕ)
digit_at [] = None
digit_at (b ∷ bs) = if is_digit b then Some (b - 48, bs) else if nat_le 97 b && nat_le b 102 then Some (b - 87, bs) else None

-- four hexadecimal digits
unfoldable pub four_digits_at : Reader ℕ
four_digits_at bytes = do
  a ← digit_at bytes
  b ← digit_at a.1
  c ← digit_at b.1
  d ← digit_at c.1
  Some (4096 * a.0 + 256 * b.0 + 16 * c.0 + d.0, d.1)

-- a word of eight hexadecimal digits, and the line feed that ends it
unfoldable pub word_line_at : Reader ℕ
word_line_at bytes = do
  high ← four_digits_at bytes
  low ← four_digits_at high.1
  rest ← past_at 10 low.1
  Some (65536 * high.0 + low.0, rest)

-- a line of a name with its blank, and a number from `least` on and below the limit
unfoldable pub count_at : List ℕ → ℕ → ℕ → Reader ℕ
count_at name least limit bytes = do
  rest ← past_all_at name bytes
  n ← number_then_at 10 limit rest
  if nat_lt n.0 least then None else Some n

-- a line of a name with its blank and a count, and so many values
unfoldable pub lines_at : {A : Type 0} → List ℕ → ℕ → ℕ → Reader A → Reader (List A)
lines_at name least limit read bytes = count_at name least limit bytes >>= λ n. many_at read n.0 n.1
