-- Words, numbers and signs that are read whole, given what follows them.
use Rattle.std.proofs.Common.{◌≡◌, ℕ, zero, suc, ◌+◌, ◌*◌, ◌/◌, ◌%◌, ◌^◌, ◌<◌, Bool, true, false, not, cond, nat_eq, nat_lt, ◌&&◌, List, [], ◌∷◌, ◌++◌, length, take, Some, length-append, refl, ap, ◌∙◌, arith}
use Rattle.std.proofs.Math.Seq.{take-append_seam}
use Rattle.std.proofs.lemmas.Bool.Decides.{nat_tests}
use Rattle.std.proofs.lemmas.Bool.{lt-ltb}
use Rattle.std.proofs.lemmas.Fmt.{decimal_digit, decimal_by_steps}
use Rattle.std.specs.Fmt.{decimal}
use Rattle.std.specs.List.{list_all, starts_with}
use Rattle.std.proofs.lemmas.List.Folds.{list_all-append}
use Rattle.std.proofs.Math.Nat.{pow-zero, pow-suc, add-mul, mul_assoc}
use Rattle.pt_base.specs.declared.operators.BinOp.{BinOp}
use Rattle.pc_grammar.specs.declared.tokens.Sort.{Sort}
use Rattle.pc_grammar.specs.declared.tokens.Sort.TheVariants.{Name, Number, OpenParenthesis, CloseParenthesis, OpenBracket, CloseBracket, Minus, Bang, Tilde}
use Rattle.pc_grammar.specs.declared.fronts.Front.{Front}
use Rattle.pc_grammar.specs.declared.fronts.Front.TheVariants.{Blank, Piece}
use Rattle.pc_grammar.specs.Spelling.{spelling_of, signs}
use Rattle.pt_base.specs.Bytes.{is_digit}
use Rattle.pc_grammar.specs.Numbers.{is_word, digit_value, value_of, has_no_leading_zero, decimal_of, number_of}
use Rattle.pc_grammar.specs.Lexing.{is_white, before, run_of, begins, run_front, reads_name, is_name, sign_of, front_of}
use Rattle.pc_grammar.proofs.Found.{both_first, both_second}
use Rattle.pt_base.proofs.NumberLaws.{leads}
use Rattle.pc_print.specs.Canonical.{binary_sign}

-- no letter, digit or `_` comes next
abbrev pub Breaks : List ℕ → Type 0
Breaks [] = Unit {0}
Breaks (b ∷ bs) = is_word b ≡ false

-- before this text, the bytes are read as one token
pub record ReadWhole (s : Sort) (u v : List ℕ) : Type 0 where
  pub some : 0 < length u
  pub front : front_of (u ++ v) ≡ (Piece s, length u)

-- ---- words

before_skip : (test : ℕ → Bool) (b : ℕ) (bs : List ℕ) → test b ≡ false → before test (b ∷ bs) ≡ suc (before test bs)
before_skip test b bs h = rw h (grind arith)

before_stop : (test : ℕ → Bool) (b : ℕ) (bs : List ℕ) → test b ≡ true → before test (b ∷ bs) ≡ 0
before_stop test b bs h = rw h (grind arith)

run_end : (v : List ℕ) → Breaks v → run_of v ≡ 0
run_end [] h = refl
run_end (b ∷ v) h = before_stop (λ b. not (is_word b)) b v (ap not h)

run_before : (u v : List ℕ) → list_all is_word u ≡ true → Breaks v → run_of (u ++ v) ≡ length u
run_before [] v all h = run_end v h
run_before (b ∷ u) v all h =
    before_skip (λ b. not (is_word b)) b (u ++ v) (ap not (both_first (is_word b) (list_all is_word u) all)) ∙ ap suc (run_before u v (both_second (is_word b) (list_all is_word u) all) h)

word_over : (b : ℕ) → is_word b ≡ true → 47 < b
word_over b h = grind (arith, nat_tests)

not_white : (b : ℕ) → 47 < b → is_white b ≡ false
not_white b h = grind (arith, nat_tests)

second_of : (t u : Bool) (x y z : Front × ℕ) → t ≡ false → u ≡ true → cond t x (cond u y z) ≡ y
second_of true u x y z h k = cc
second_of false true x y z h k = refl
second_of false false x y z h k = cc

word_opens : (b : ℕ) (bs : List ℕ) → is_white b ≡ false → is_word b ≡ true → front_of (b ∷ bs) ≡ (run_front (take (run_of (b ∷ bs)) (b ∷ bs)), run_of (b ∷ bs))
unfolding front_of
word_opens b bs white word = second_of (is_white b) (is_word b) _ _ _ white word

pub word_front : (u v : List ℕ) → 0 < length u → list_all is_word u ≡ true → Breaks v → front_of (u ++ v) ≡ (run_front u, length u)
word_front [] v some all breaks = absurd (omega arith)
word_front (b ∷ u) v some all breaks =
    let word : is_word b ≡ true = both_first (is_word b) (list_all is_word u) all in
    let run : run_of ((b ∷ u) ++ v) ≡ length (b ∷ u) = run_before (b ∷ u) v all breaks in
    word_opens b (u ++ v) (not_white b (word_over b word)) word
    ∙ ap (λ (n : ℕ). let k : Front × ℕ = (run_front (take n ((b ∷ u) ++ v)), n) in k) run
    ∙ ap (λ (x : List ℕ). let k : Front × ℕ = (run_front x, length (b ∷ u)) in k) (take-append_seam (b ∷ u) v)

name_front : (f : Front) → reads_name f ≡ true → f ≡ Piece Name
name_front (Piece Name) h = refl
name_front _ h = cc

-- a name
pub read_name : (u v : List ℕ) → is_name u ≡ true → Breaks v → ReadWhole Name u v
unfolding is_name run_front
read_name [] v name breaks = absurd cc
read_name (b ∷ u) v name breaks =
    let words : list_all is_word (b ∷ u) ≡ true = both_first (list_all is_word (b ∷ u)) (reads_name (run_front (b ∷ u))) name in
    let reads : reads_name (run_front (b ∷ u)) ≡ true = both_second (list_all is_word (b ∷ u)) (reads_name (run_front (b ∷ u))) name in
    record {
      some = omega arith;
      front = word_front (b ∷ u) v (omega arith) words breaks ∙ ap (λ (f : Front). let k : Front × ℕ = (f, length (b ∷ u)) in k) (name_front (run_front (b ∷ u)) reads);
    }

-- ---- numbers

digit_is : (d : ℕ) → d < 10 → is_digit (48 + d) ≡ true
digit_is d h = grind (arith, nat_tests)

digit_worth : (d : ℕ) → d < 10 → digit_value (48 + d) ≡ d
digit_worth d h = let low : nat_lt (48 + d) 58 ≡ true = lt-ltb (48 + d) 58 (omega arith) in rw low (omega arith)

placed : (v d p r : ℕ) → v * p * 10 + (d * 10 + r) ≡ (v * p + d) * 10 + r
placed v d p r = grind (arith, add-mul, mul_assoc)

value-append : (ds : List ℕ) (d : ℕ) → value_of 10 (ds ++ d ∷ []) ≡ value_of 10 ds * 10 + digit_value d
value-append [] d = omega (arith, pow-zero 10)
value-append (e ∷ ds) d =
    let long : length (ds ++ d ∷ []) ≡ suc (length ds) = omega (arith, length-append ds (d ∷ [])) in
    let p : 10 ^ length (ds ++ d ∷ []) ≡ 10 ^ length ds * 10 = ap (λ (n : ℕ). 10 ^ n) long ∙ pow-suc 10 (length ds) in
    rw p (rw (value-append ds d) (grind (arith, add-mul, mul_assoc)))

record Decimal (n : ℕ) (ds : List ℕ) : Type 0 where
  some : 0 < length ds
  digits : list_all is_digit ds ≡ true
  value : value_of 10 ds ≡ n

is_decimal : (n : ℕ) → n < 2 ^ 64 → Decimal n (decimal n)
is_decimal n fits =
    decimal_by_steps Decimal
    (λ m small. record { some = omega arith; digits = rw (digit_is m small) refl; value = grind (arith, pow-zero, digit_worth m small) })
    (λ m ds large so. record {
      some = omega (arith, length-append ds ((48 + m % 10) ∷ []));
      digits = list_all-append is_digit ds ((48 + m % 10) ∷ []) ∙ rw so.digits (rw (digit_is (m % 10) (omega arith)) refl);
      value = value-append ds (48 + m % 10) ∙ ap (λ (k : ℕ). k * 10 + digit_value (48 + m % 10)) so.value ∙ ap (λ (k : ℕ). m / 10 * 10 + k) (digit_worth (m % 10) (omega arith)) ∙ omega arith;
    }) n fits

digit_word : (b : ℕ) → is_digit b ≡ true → is_word b ≡ true
digit_word b h = rw h refl

digits_words : (ds : List ℕ) → list_all is_digit ds ≡ true → list_all is_word ds ≡ true
digits_words [] h = refl
digits_words (d ∷ ds) h = rw (digit_word d (both_first (is_digit d) (list_all is_digit ds) h)) (digits_words ds (both_second (is_digit d) (list_all is_digit ds) h))

digit_no_letter : (b : ℕ) → is_digit b ≡ true → nat_eq 120 b ≡ false
digit_no_letter b h = grind (arith, nat_tests)

both_false : (a : Bool) → (a && false) ≡ false
both_false true = refl
both_false false = refl

-- digits alone aren't hexadecimal
no_prefix : (ds : List ℕ) → list_all is_digit ds ≡ true → starts_with nat_eq ds (48 ∷ 120 ∷ []) ≡ false
no_prefix [] h = refl
no_prefix (d ∷ []) h = both_false (nat_eq 48 d)
no_prefix (d ∷ e ∷ ds) h =
    let second : is_digit e ≡ true = both_first (is_digit e) (list_all is_digit ds) (both_second (is_digit d) (is_digit e && list_all is_digit ds) h) in
    rw (digit_no_letter e second) (both_false (nat_eq 48 d))

no_leading : (b : ℕ) → 48 < b → not (nat_eq b 48) ≡ true
no_leading b h = grind (arith, nat_tests)

no_zero_leads : (ds : List ℕ) (b : ℕ) (rest : List ℕ) → ds ≡ b ∷ rest → 48 < b → has_no_leading_zero ds ≡ true
no_zero_leads [] b rest eq over = absurd cc
no_zero_leads (d ∷ []) b rest eq over = refl
no_zero_leads (d ∷ e ∷ ds) b rest eq over = let same : b ≡ d = cc in no_leading d (omega arith)

no_zero : (n : ℕ) → n < 2 ^ 64 → has_no_leading_zero (decimal n) ≡ true
no_zero zero fits = rw (decimal_digit 0 (omega arith)) refl
no_zero (suc n) fits = let l = leads (suc n) fits in no_zero_leads (decimal (suc n)) l.first l.others l.is (l.over (omega arith))

pub number_is : (n : ℕ) → n < 4294967296 → number_of (decimal n) ≡ Some n
unfolding number_of decimal_of
number_is n small =
    let so = is_decimal n (omega arith) in
    let first : has_no_leading_zero (decimal n) ≡ true = no_zero n (omega arith) in
    rw (no_prefix (decimal n) so.digits) (rw so.digits (rw first (ap (λ (k : ℕ). Some k) so.value)))

number_run : (n : ℕ) (ds : List ℕ) → Decimal n ds → number_of ds ≡ Some n → n < 4294967296 → run_front ds ≡ Piece (Number n)
unfolding run_front
number_run n [] so eq small = absurd (omega (arith, so.some))
number_run n (d ∷ ds) so eq small =
    let digit : is_digit d ≡ true = both_first (is_digit d) (list_all is_digit ds) so.digits in
    rw digit (rw eq (rw (lt-ltb n 4294967296 small) refl))

-- a number
pub read_number : (n : ℕ) (v : List ℕ) → n < 4294967296 → Breaks v → ReadWhole (Number n) (decimal n) v
read_number n v small breaks =
    let so = is_decimal n (omega arith) in
    record {
      some = so.some;
      front = word_front (decimal n) v so.some (digits_words (decimal n) so.digits) breaks ∙ ap (λ (f : Front). let k : Front × ℕ = (f, length (decimal n)) in k) (number_run n (decimal n) so (number_is n small) small);
    }

-- ---- signs

abbrev pub ReadSign : Sort → List ℕ → Type 0
ReadSign s v = ReadWhole s (spelling_of s) v

pub read_open : (v : List ℕ) → ReadSign OpenParenthesis v
unfolding front_of sign_of signs spelling_of
read_open v = record { some = omega arith; front = refl }

pub read_close : (v : List ℕ) → ReadSign CloseParenthesis v
unfolding front_of sign_of signs spelling_of
read_close v = record { some = omega arith; front = refl }

pub read_open_bracket : (v : List ℕ) → ReadSign OpenBracket v
unfolding front_of sign_of signs spelling_of
read_open_bracket v = record { some = omega arith; front = refl }

pub read_close_bracket : (v : List ℕ) → ReadSign CloseBracket v
unfolding front_of sign_of signs spelling_of
read_close_bracket v = record { some = omega arith; front = refl }

pub read_minus : (v : List ℕ) → ReadSign Minus v
unfolding front_of sign_of signs spelling_of
read_minus v = record { some = omega arith; front = refl }

pub read_tilde : (v : List ℕ) → ReadSign Tilde v
unfolding front_of sign_of signs spelling_of
read_tilde v = record { some = omega arith; front = refl }

other_way : (b : ℕ) → nat_eq b 61 ≡ false → nat_eq 61 b ≡ false
other_way b h = grind (arith, nat_tests)

-- `!` before anything but `=`
pub read_bang : (v : List ℕ) → begins 61 v ≡ false → ReadSign Bang v
unfolding front_of sign_of signs spelling_of
read_bang [] h = record { some = omega arith; front = refl }
read_bang (b ∷ v) h = record { some = omega arith; front = rw (other_way b h) refl }

-- an operator between operands, before a blank
pub read_operator : (op : BinOp) (v : List ℕ) → ReadSign (binary_sign op) (32 ∷ v)
unfolding front_of sign_of signs spelling_of
read_operator BinOp.Or v = record { some = omega arith; front = refl }
read_operator BinOp.And v = record { some = omega arith; front = refl }
read_operator BinOp.BitOr v = record { some = omega arith; front = refl }
read_operator BinOp.BitXor v = record { some = omega arith; front = refl }
read_operator BinOp.BitAnd v = record { some = omega arith; front = refl }
read_operator BinOp.Equal v = record { some = omega arith; front = refl }
read_operator BinOp.NotEqual v = record { some = omega arith; front = refl }
read_operator BinOp.Less v = record { some = omega arith; front = refl }
read_operator BinOp.LessEqual v = record { some = omega arith; front = refl }
read_operator BinOp.Greater v = record { some = omega arith; front = refl }
read_operator BinOp.GreaterEqual v = record { some = omega arith; front = refl }
read_operator BinOp.ShiftLeft v = record { some = omega arith; front = refl }
read_operator BinOp.ShiftRight v = record { some = omega arith; front = refl }
read_operator BinOp.Add v = record { some = omega arith; front = refl }
read_operator BinOp.Sub v = record { some = omega arith; front = refl }
read_operator BinOp.Mul v = record { some = omega arith; front = refl }
read_operator BinOp.Div v = record { some = omega arith; front = refl }
read_operator BinOp.Rem v = record { some = omega arith; front = refl }

-- white space
pub white_front : (b : ℕ) (v : List ℕ) → is_white b ≡ true → front_of (b ∷ v) ≡ (Blank, 1)
unfolding front_of
white_front b v white = rw white refl
