-- How a text is cut into white space, comments and longest tokens, and where the first fault is:
-- docs/language.md, "Tokens".
use Rattle.std.specs.Prelude.{◌≡◌, ℕ, suc, ◌+◌, ◌<◌, ◌≤◌, Bool, true, false, not, ◌||◌, ◌&&◌, List, [], ◌∷◌, Option, Some, None, All, length, take, drop, find, position, unwrap_or, slice_range, nat_lt, nat_eq, if◌then◌else◌}
use Rattle.std.specs.Option.{option_map}
use Rattle.std.specs.List.{list_all, starts_with}
use lib.Pointwise.{pointwise}
use Rattle.pt_base.specs.declared.rules.Rule.{Rule}
use Rattle.pt_base.specs.declared.rules.Rule.TheVariants.{L1, L2, L3}
use Rattle.pt_base.specs.declared.rules.Refusal.{Refusal}
use Rattle.pt_base.specs.declared.rules.Refusal.TheVariants.{Broken, Memory}
use Rattle.pc_grammar.specs.declared.tokens.Sort.{Sort}
use Rattle.pc_grammar.specs.declared.tokens.Sort.TheVariants.{Name, Number}
use Rattle.pc_grammar.specs.declared.tokens.Token.{Token}
use Rattle.pc_grammar.specs.declared.fronts.Front.{Front}
use Rattle.pc_grammar.specs.declared.fronts.Front.TheVariants.{Blank, Piece, Fault}
use Rattle.pc_grammar.specs.Spelling.{spelling_of, keywords, signs}
use Rattle.pt_base.specs.Bytes.{is_digit}
use Rattle.pc_grammar.specs.Numbers.{is_word, number_of}

-- the bytes 9 to 13 and 32
abbrev pub is_white : ℕ → Bool
is_white b = nat_eq b 32 || (nat_lt 8 b && nat_lt b 14)

-- how many bytes from the front on there are before the first that is as the test says
abbrev pub before : (ℕ → Bool) → List ℕ → ℕ
before test bytes = unwrap_or (position test bytes) (length bytes)

-- the letters, digits and `_` at the front
abbrev pub run_of : List ℕ → ℕ
run_of bytes = before (λ b. not (is_word b)) bytes

-- the bytes up to the line's end, without the line feed
abbrev pub line_of : List ℕ → ℕ
line_of bytes = before (λ b. nat_eq b 10) bytes

abbrev pub begins : ℕ → List ℕ → Bool
begins b [] = false
begins b (c ∷ cs) = nat_eq c b

-- the bytes up to the first `*/`, with it
abbrev pub closed_in : List ℕ → Option ℕ
closed_in [] = None
closed_in (b ∷ bs) = if nat_eq b 42 && begins 47 bs then Some 2 else option_map suc (closed_in bs)

-- a run that begins with a letter or `_` is a keyword or a name
abbrev pub keyword_or_name : Option Sort → Sort
keyword_or_name (Some keyword) = keyword
keyword_or_name None = Name

unfoldable pub word_sort : List ℕ → Sort
word_sort run = keyword_or_name (find (λ s. pointwise nat_eq (spelling_of s) run) keywords)

-- a run that begins with a digit is a number of 32 bits, or is refused
abbrev pub number_front : Option ℕ → Front
number_front None = Fault L1
number_front (Some value) = if nat_lt value 4294967296 then Piece (Number value) else Fault L2

unfoldable pub run_front : List ℕ → Front
run_front [] = Fault L1
run_front (b ∷ rest) = if is_digit b then number_front (number_of (b ∷ rest)) else Piece (word_sort (b ∷ rest))

abbrev pub reads_name : Front → Bool
reads_name (Piece Name) = true
reads_name _ = false

-- letters, digits and `_` that begin with no digit and are no keyword
unfoldable pub is_name : List ℕ → Bool
is_name run = list_all is_word run && reads_name (run_front run)

-- the longest sign that the text begins with; any other byte is no token
abbrev pub sign_front : Option Sort → Front × ℕ
sign_front (Some sign) = (Piece sign, length (spelling_of sign))
sign_front None = (Fault L1, 1)

unfoldable pub sign_of : List ℕ → Option Sort
sign_of bytes = find (λ s. starts_with nat_eq bytes (spelling_of s)) signs

abbrev pub comment_front : Option ℕ → Front × ℕ
comment_front (Some n) = (Blank, n + 2)
comment_front None = (Fault L3, 2)

-- what the text begins with, and how many bytes it has
unfoldable pub front_of : List ℕ → Front × ℕ
front_of [] = (Fault L1, 0)
front_of (b ∷ bs) =
    if is_white b then (Blank, 1)
    else if is_word b then (run_front (take (run_of (b ∷ bs)) (b ∷ bs)), run_of (b ∷ bs))
    else if nat_eq b 47 && begins 47 bs then (Blank, line_of (b ∷ bs))
    else if nat_eq b 47 && begins 42 bs then comment_front (closed_in (drop 1 bs))
    else sign_front (sign_of (b ∷ bs))

-- how the cut of a text ends: with the text, or at a fault
pub data CutEnd : Type 0 where
  whole : CutEnd
  broken : Rule → (from to : ℕ) → CutEnd

-- the text from the place `at` on is cut into these tokens, up to its end or to the first fault
pub data Lexes : ℕ → List ℕ → List Token → CutEnd → Type 0 where
  done : {at : ℕ} → Lexes at [] [] whole
  blank : {at n : ℕ} {bytes : List ℕ} {ts : List Token} {e : CutEnd} → 0 < length bytes → front_of bytes ≡ (Blank, n) → Lexes (at + n) (drop n bytes) ts e → Lexes at bytes ts e
  piece : {at n : ℕ} {bytes : List ℕ} {ts : List Token} {e : CutEnd} (s : Sort) → 0 < length bytes → front_of bytes ≡ (Piece s, n) → Lexes (at + n) (drop n bytes) ts e → Lexes at bytes (record { sort = s; span = record { from = at; to = at + n } } ∷ ts) e
  fault : {at n : ℕ} {bytes : List ℕ} (r : Rule) → 0 < length bytes → front_of bytes ≡ (Fault r, n) → Lexes at bytes [] (broken r at (at + n))

-- the first fault of the text is this one
abbrev pub RefusedIn : List ℕ → Refusal → Type 0
RefusedIn bytes (Broken rule span) = (ts : List Token) × Lexes 0 bytes ts (broken rule span.from span.to)
RefusedIn bytes Memory = Unit {0}

-- the spans rise without overlap from `at` on, and end at `end` at most
abbrev pub InOrder : ℕ → List Token → ℕ → Type 0
InOrder at [] end = at ≤ end
InOrder at (t ∷ ts) end = (at ≤ t.span.from) × (t.span.from < t.span.to) × InOrder t.span.to ts end

-- the text that a token of this sort has: a number's spelling, a name, or the one of the table
unfoldable pub TextOf : Sort → List ℕ → Type 0
TextOf Name text = is_name text ≡ true
TextOf (Number value) text = number_of text ≡ Some value
TextOf s text = text ≡ spelling_of s

-- each token's text is its slice of the source
abbrev pub AreSlices : List ℕ → List Token → Type 0
AreSlices bytes ts = All (λ t. TextOf t.sort (slice_range bytes t.span.from t.span.to)) ts

-- no text is cut in two ways
abbrev pub OneCut : Type 0
OneCut = (bytes : List ℕ) (ts ts' : List Token) (e e' : CutEnd) → Lexes 0 bytes ts e → Lexes 0 bytes ts' e' → (ts ≡ ts') × (e ≡ e')

-- no longer sign begins where a sign is read
abbrev pub LongestSign : Type 0
LongestSign = (bytes : List ℕ) (s : Sort) → sign_of bytes ≡ Some s → All (λ other. starts_with nat_eq bytes (spelling_of other) ≡ true → length (spelling_of other) ≤ length (spelling_of s)) signs
