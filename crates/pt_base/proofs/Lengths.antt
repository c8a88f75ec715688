-- How long the spellings are.
use Rattle.std.proofs.Common.{ℕ, ◌+◌, ◌*◌, ◌^◌, ◌<◌, ◌≤◌, ℤ, List, [], ◌∷◌, length, arith, suc-mul, w32, FitsSigned}
use Rattle.std.specs.List.{AllByRecursion}
use Rattle.std.specs.Fmt.{decimal, signed_decimal}
use Rattle.std.proofs.lemmas.Fmt.{length-decimal-le, length_signed_le}
use Rattle.std.proofs.lemmas.List.{length-append}
use Rattle.pt_base.specs.Spelling.{each, number_text, list_text, numbers_text, blank_number, four_digits, word_text, signed_text, count_text, lines_text}

-- a place, or the number of a list's entries
abbrev pub Small : ℕ → Type 0
Small n = n < 10 ^ 5

pub each_short : {A : Type 0} (spell : A → List ℕ) (IsIn : A → Type 0) (most : ℕ) → ((x : A) → IsIn x → length (spell x) ≤ most) → (xs : List A) → AllByRecursion IsIn xs → length (each spell xs) ≤ length xs * most
each_short spell IsIn most short [] all = omega arith
each_short spell IsIn most short (x ∷ xs) all =
    let one = short x all.0 in
    let others = each_short spell IsIn most short xs all.1 in
    let sum = length-append (spell x) (each spell xs) in
    omega (arith, suc-mul (length xs) most)

pub number_short : (ends n : ℕ) → Small n → length (number_text ends n) ≤ 6
number_short ends n small = omega (arith, length-append (decimal n) (ends ∷ []), length-decimal-le 5 n (omega arith) small (omega arith))

-- a number of 32 bits
abbrev pub Medium : ℕ → Type 0
Medium n = n < 10 ^ 10

blank_short : (n : ℕ) → Medium n → length (blank_number n) ≤ 11
blank_short n medium = omega (arith, length-decimal-le 10 n (omega arith) medium (omega arith))

pub list_short : (ns : List ℕ) → length ns ≤ 8 → AllByRecursion Medium ns → length (list_text ns) ≤ 93
list_short ns few medium =
    let front = length-decimal-le 5 (length ns) (omega arith) (omega arith) (omega arith) in
    let behind = each_short blank_number Medium 11 blank_short ns medium in
    omega (arith, length-append (decimal (length ns)) (each blank_number ns))

pub numbers_short : (ends : ℕ) (ns : List ℕ) → length ns ≤ 8 → AllByRecursion Medium ns → length (numbers_text ends ns) ≤ 94
numbers_short ends ns few medium = omega (arith, length-append (list_text ns) (ends ∷ []), list_short ns few medium)

pub word_short : (n : ℕ) → length (word_text n) ≤ 9
unfolding word_text four_digits
word_short n = omega arith

pub signed_short : (z : ℤ) → FitsSigned w32 z → length (signed_text z) ≤ 12
signed_short z fits = let h = fits.sfits in omega (arith, length-append (signed_decimal z) (10 ∷ []), length_signed_le 10 z (omega arith) (omega arith))

pub lines_short : {A : Type 0} (name : List ℕ) (spell : A → List ℕ) (IsIn : A → Type 0) (most : ℕ) → ((x : A) → IsIn x → length (spell x) ≤ most) → (xs : List A) → Small (length xs) → AllByRecursion IsIn xs → length (lines_text name spell xs) ≤ length name + 6 + length xs * most
lines_short name spell IsIn most short xs small all =
    omega (arith, length-append (count_text name (length xs)) (each spell xs), length-append name (number_text 10 (length xs)), number_short 10 (length xs) small, each_short spell IsIn most short xs all)
