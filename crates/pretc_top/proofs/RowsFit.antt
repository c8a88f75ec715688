-- The rows of a trace have the width and hold words of 32 bits.
use Rattle.std.proofs.Common.{◌≡◌, ℕ, zero, suc, ◌+◌, ◌-◌, ◌^◌, ◌≤◌, ◌==◌, ℤ, pos, neg_ℤ, Bool, true, false, cond, nat_le, nat_lt, List, [], ◌∷◌, length, Option, Some, None, All, FitsSigned, refl, arith}
use Rattle.std.specs.Int.{w32}
use Rattle.std.proofs.lemmas.List.Elements.{All-cons, All-nil}
use Rattle.pt_trace.specs.Trace.{Line, Reading, Row, Refused, reading, counted, numbers, before, number, natural, signed_up_to, content, words, lines}
use Rattle.pt_trace.specs.Rows.{Rows, rows_from, onto}

-- a row of this width, of words
abbrev pub IsWordRow : ℕ → List ℤ → Type 0
IsWordRow width row = (length row ≡ width) × All (FitsSigned w32) row

abbrev MayFit : Option ℤ → Type 0
MayFit None = Unit {0}
MayFit (Some z) = FitsSigned w32 z

abbrev MayAllFit : Option (List ℤ) → Type 0
MayAllFit None = Unit {0}
MayAllFit (Some zs) = All (FitsSigned w32) zs

abbrev MayBeRow : ℕ → Reading → Type 0
MayBeRow width (Row row) = IsWordRow width row
MayBeRow width (Refused rule) = Unit {0}

le_of : (a b : ℕ) → nat_le a b ≡ true → a ≤ b
le_of a b h = grind arith

eq_of : (a b : ℕ) → (a == b) ≡ true → a ≡ b
eq_of a b h = grind arith

negative_fits : (n : ℕ) → n ≤ 2147483648 → FitsSigned w32 (neg_ℤ (pos n))
negative_fits zero h = record { sfits = omega arith }
negative_fits (suc n) h = record { sfits = omega arith }

within_most : (negative small : Bool) (n most : ℕ) → (nat_le n most) ≡ small → most ≤ cond negative 2147483648 2147483647 → MayFit (cond small (Some (cond negative (neg_ℤ (pos n)) (pos n))) None)
within_most negative false n most e h = tt
within_most true true n most e h = let le : n ≤ most = le_of n most e in negative_fits n (omega arith)
within_most false true n most e h = let le : n ≤ most = le_of n most e in record { sfits = omega arith }

signed_fits : (negative : Bool) (most : ℕ) (n : Option ℕ) → most ≤ cond negative 2147483648 2147483647 → MayFit (signed_up_to most negative n)
signed_fits negative most None h = tt
signed_fits negative most (Some n) h = within_most negative (nat_le n most) n most refl h

number_by : (minus : Bool) (m n : Option ℕ) → MayFit (cond minus (signed_up_to (2 ^ 31) true m) (signed_up_to (2 ^ 31 - 1) false n))
number_by true m n = signed_fits true (2 ^ 31) m (omega arith)
number_by false m n = signed_fits false (2 ^ 31 - 1) n (omega arith)

number_fits : (word : List ℕ) → MayFit (number word)
number_fits [] = tt
number_fits (b ∷ bs) = number_by (b == 45) (natural bs) (natural (b ∷ bs))

before_fits : (z : Option ℤ) (zs : Option (List ℤ)) → MayFit z → MayAllFit zs → MayAllFit (before z zs)
before_fits None zs f g = tt
before_fits (Some z) None f g = tt
before_fits (Some z) (Some zs) f g = All-cons (FitsSigned w32) z zs f g

numbers_fit : (ws : List (List ℕ)) → MayAllFit (numbers ws)
numbers_fit [] = All-nil (FitsSigned w32)
numbers_fit (w ∷ ws) = before_fits (number w) (numbers ws) (number_fits w) (numbers_fit ws)

sized : (width : ℕ) (zs : List ℤ) (same : Bool) → (length zs == width) ≡ same → All (FitsSigned w32) zs → MayBeRow width (cond same (Row zs) (Refused 2))
sized width zs true e f = (eq_of (length zs) width e, f)
sized width zs false e f = tt

counted_fits : (width : ℕ) (zs : Option (List ℤ)) → MayAllFit zs → MayBeRow width (counted width zs)
counted_fits width None f = tt
counted_fits width (Some zs) f = sized width zs (length zs == width) refl f

refusing : (width rule : ℕ) (refused : Bool) (r : Reading) → MayBeRow width r → MayBeRow width (cond refused (Refused rule) r)
refusing width rule true r f = tt
refusing width rule false r f = f

reading_fits : (width k : ℕ) (l : Line) → MayBeRow width (reading width k l)
reading_fits width k l =
    refusing width 3 (nat_lt 1000000 k) _ (refusing width 4 (nat_lt 1024 (length l.bytes)) _ (counted_fits width (numbers (words (content l))) (numbers_fit (words (content l)))))

onto_fits : (width k : ℕ) (r : Reading) (after : Rows) → MayBeRow width r → All (IsWordRow width) after.rows → All (IsWordRow width) (onto k r after).rows
onto_fits width k (Row row) after f g = All-cons (IsWordRow width) row after.rows f g
onto_fits width k (Refused rule) after f g = All-nil (IsWordRow width)

pub rows_fit_from : (width k : ℕ) (ls : List Line) → All (IsWordRow width) (rows_from width k ls).rows
rows_fit_from width k [] = All-nil (IsWordRow width)
rows_fit_from width k (l ∷ ls) = onto_fits width k (reading width k l) (rows_from width (k + 1) ls) (reading_fits width k l) (rows_fit_from width (k + 1) ls)
