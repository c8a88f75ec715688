-- How numbers and lines are spelled: docs/files.md, "Lines and numbers".
use Rattle.std.specs.Prelude.{ℕ, ℤ, ◌/◌, ◌%◌, false, List, [], ◌∷◌, ◌++◌, length}
use Rattle.std.specs.Fmt.{decimal, signed_decimal, digit_glyph}

-- the spellings of all values, one after another
abbrev pub each : {A : Type 0} → (A → List ℕ) → List A → List ℕ
each spell [] = []
each spell (x ∷ xs) = spell x ++ each spell xs

-- a number, and the byte that ends it
abbrev pub number_text : ℕ → ℕ → List ℕ
number_text ends n = decimal n ++ ends ∷ []

-- a blank, and a number
abbrev pub blank_number : ℕ → List ℕ
blank_number n = 32 ∷ decimal n

-- how many numbers there are, and each of them behind a blank
abbrev pub list_text : List ℕ → List ℕ
list_text ns = decimal (length ns) ++ each blank_number ns

-- the same, and the byte that ends it
abbrev pub numbers_text : ℕ → List ℕ → List ℕ
numbers_text ends ns = list_text ns ++ ends ∷ []

-- four lower-case hexadecimal digits
unfoldable pub four_digits : ℕ → List ℕ
four_digits n = digit_glyph false (n / 4096 % 16) ∷ digit_glyph false (n / 256 % 16) ∷ digit_glyph false (n / 16 % 16) ∷ digit_glyph false (n % 16) ∷ []

-- a word of eight lower-case hexadecimal digits on a line of its own
unfoldable pub word_text : ℕ → List ℕ
word_text n = four_digits (n / 65536) ++ (four_digits (n % 65536) ++ 10 ∷ [])

-- a signed number on a line of its own
abbrev pub signed_text : ℤ → List ℕ
signed_text z = signed_decimal z ++ 10 ∷ []

-- a line of a name with its blank, and how many lines belong to it
abbrev pub count_text : List ℕ → ℕ → List ℕ
count_text name n = name ++ number_text 10 n

-- a line of a name with its blank and how many values there are, and their lines
abbrev pub lines_text : {A : Type 0} → List ℕ → (A → List ℕ) → List A → List ℕ
lines_text name spell xs = count_text name (length xs) ++ each spell xs

-- texts, one after another
abbrev pub joined : List (List ℕ) → List ℕ
joined ts = each (λ t. t) ts
