-- The first line of what is unread.
use Rattle.std.proofs.Common.{◌≡◌, ◌≢◌, not, take-append-drop, length-append, ◌<◌, ◌≤◌, ◌+◌, ◌==◌, ℕ, suc, zero, Bool, true, false, cond, nat_lt, List, [], ◌∷◌, ◌++◌, Option, Some, None, length, take, drop, get_or, refl, sym, ap, ◌∙◌, subst, add-one, append_assoc, append-nil, arith}
use Rattle.std.proofs.lemmas.Bool.{eq-eqb, eqb-true, ne_eqb, lt-ltb, ltb-false}
use Rattle.std.proofs.lemmas.List.{drop_more}
use Rattle.std.proofs.lemmas.List.Quantifiers.{position-Some}
use Rattle.std.proofs.lemmas.List.Sums.{prefix_len_passes}
use Rattle.std.specs.List.{position_or_len}
use Rattle.std.specs.Io.KnownBytes.{Keeps, IsAtEnd, prepend_known}
use Rattle.pt_trace.specs.Trace as trace
use Rattle.pt_trace.specs.Trace.{Line, begins, lines, reading, counted, numbers, words, content}
use Rattle.pt_trace.specs.Next.{IsFirst, Gives, Begins, line_feed}

-- ---- bytes that begin with a line

-- a line feed ends the first line
pub cut-ended : (xs ys : List ℕ) (i : ℕ) → i < length xs → get_or xs i 0 ≡ 10 → ((k : ℕ) → k < i → get_or xs k 0 ≢ 10) →
    lines (xs ++ ys) ≡ record { bytes = take i xs; ended = true } ∷ lines (drop (suc i) xs ++ ys)
cut-ended [] ys i lt so first = absurd (omega (arith, lt))
cut-ended (b ∷ xs) ys zero lt so first =
    ap (λ (t : Bool). cond t (record { bytes = []; ended = true } ∷ lines (xs ++ ys)) (begins b (lines (xs ++ ys)))) (eq-eqb b 10 so)
cut-ended (b ∷ xs) ys (suc i) lt so first =
    ap (λ (t : Bool). cond t (record { bytes = []; ended = true } ∷ lines (xs ++ ys)) (begins b (lines (xs ++ ys)))) (ne_eqb b 10 (first 0 (omega arith)))
    ∙ ap (begins b) (cut-ended xs ys i (omega (arith, lt)) so (λ k h. first (suc k) (omega (arith, h))))

-- no line feed is left
pub cut-last : (b : ℕ) (xs : List ℕ) → ((k : ℕ) → k < length (b ∷ xs) → get_or (b ∷ xs) k 0 ≢ 10) → lines (b ∷ xs) ≡ record { bytes = b ∷ xs; ended = false } ∷ []
cut-last b [] none = ap (λ (t : Bool). cond t (record { bytes = []; ended = true } ∷ []) (begins b [])) (ne_eqb b 10 (none 0 (omega arith)))
cut-last b (c ∷ xs) none =
    ap (λ (t : Bool). cond t (record { bytes = []; ended = true } ∷ lines (c ∷ xs)) (begins b (lines (c ∷ xs)))) (ne_eqb b 10 (none 0 (omega arith)))
    ∙ ap (begins b) (cut-last c xs (λ k h. none (suc k) (omega (arith, h))))

-- the bytes of the first line, none where there is no line
abbrev pub front : List Line → List ℕ
front [] = []
front (l ∷ ls) = l.bytes

front-begins : (b : ℕ) (ls : List Line) → front (begins b ls) ≡ b ∷ front ls
front-begins b [] = refl
front-begins b (l ∷ ls) = refl

-- bytes without a line feed belong to one line, whatever follows
pub front-long : (xs ys : List ℕ) → ((k : ℕ) → k < length xs → get_or xs k 0 ≢ 10) → length xs ≤ length (front (lines (xs ++ ys)))
front-long [] ys none = omega arith
front-long (b ∷ xs) ys none =
    let e : lines (b ∷ xs ++ ys) ≡ begins b (lines (xs ++ ys)) =
    ap (λ (t : Bool). cond t (record { bytes = []; ended = true } ∷ lines (xs ++ ys)) (begins b (lines (xs ++ ys)))) (ne_eqb b 10 (none 0 (omega arith))) in
    omega (arith, ap (λ (ls : List Line). length (front ls)) e, ap (λ (zs : List ℕ). length zs) (front-begins b (lines (xs ++ ys))), front-long xs ys (λ k h. none (suc k) (omega (arith, h))))

-- some bytes have a first line
pub record HasLine (bytes : List ℕ) : Type 0 where
  pub line : Line
  pub rest : List Line
  pub is : lines bytes ≡ line ∷ rest

begun : (b : ℕ) (ls : List Line) → (l : Line) × ((rest : List Line) × (begins b ls ≡ l ∷ rest))
begun b [] = (_, (_, refl))
begun b (l ∷ ls) = (_, (_, refl))

with_line : (bs : List ℕ) (ls : List Line) → lines bs ≡ ls → (l : Line) × ((rest : List Line) × (ls ≡ l ∷ rest)) → HasLine bs
with_line bs ls e p = record { line = p.0; rest = p.1.0; is = e ∙ p.1.1 }

pub has_line : (bs : List ℕ) → 0 < length bs → HasLine bs
has_line [] some = absurd (omega (arith, some))
has_line (b ∷ bs) some =
    let P : Bool → Type 0 = λ t. (l : Line) × ((rest : List Line) × (cond t (record { bytes = []; ended = true } ∷ lines bs) (begins b (lines bs)) ≡ l ∷ rest)) in
    with_line (b ∷ bs) _ refl (elim (b == 10) as P [ true ↦ (_, (_, refl)) | false ↦ begun b (lines bs) ])

-- ---- where line feeds stand

is_none : (t : Bool) (n : ℕ) → cond t (Some n) None ≡ None → t ≡ false
is_none true n e = absurd (cc)
is_none false n e = refl

no_line_feed : (xs : List ℕ) → line_feed xs ≡ None → (k : ℕ) → k < length xs → get_or xs k 0 ≢ 10
no_line_feed xs none k lt so =
    let test : ℕ → Bool = λ b. b == 10 in
    let past : length xs ≤ position_or_len test xs = ltb-false (position_or_len test xs) (length xs) (is_none (nat_lt (position_or_len test xs) (length xs)) (position_or_len test xs) none) in
    let passes : not (get_or xs k 0 == 10) ≡ true = prefix_len_passes (λ b. not (b == 10)) xs k 0 (omega (arith, lt, past)) in
    let fails : not (get_or xs k 0 == 10) ≡ false = ap not (eq-eqb (get_or xs k 0) 10 so) in
    absurd (cc)

-- a line that ends with the first line feed
pub first-ended : (xs ys : List ℕ) (at : ℕ) → line_feed xs ≡ Some at → IsFirst (record { bytes = take at xs; ended = true }) (xs ++ ys) (drop (at + 1) xs ++ ys)
first-ended xs ys at found =
    let there = position-Some (λ b. b == 10) xs at 0 found in
    let so : get_or xs at 0 ≡ 10 = eqb-true (get_or xs at 0) 10 there.1 in
    record {
      cut =
          ap (λ (zs : List ℕ). zs ++ ys) (sym (take-append-drop at xs) ∙ ap (λ (zs : List ℕ). take at xs ++ zs) (drop_more xs at 0 there.0 ∙ ap (λ (b : ℕ). b ∷ drop (at + 1) xs) so) ∙ sym (append_assoc (take at xs) (10 ∷ []) (drop (at + 1) xs)))
          ∙ append_assoc (take at xs ++ 10 ∷ []) (drop (at + 1) xs) ys;
      line =
          cut-ended xs ys at there.0 so (λ k h e. cc (there.2 k h, eq-eqb (get_or xs k 0) 10 e))
          ∙ ap (λ (n : ℕ). record { bytes = take at xs; ended = true } ∷ lines (drop n xs ++ ys)) (sym (add-one at));
    }

-- the last line, which has no line feed
pub first-last : (xs : List ℕ) → line_feed xs ≡ None → 0 < length xs → IsFirst (record { bytes = xs; ended = false }) xs []
first-last [] none some = absurd (omega (arith, some))
first-last (b ∷ xs) none some = record {
  cut = sym (append-nil (b ∷ xs ++ []) ∙ append-nil (b ∷ xs));
  line = cut-last b xs (no_line_feed (b ∷ xs) none);
}

-- ---- the same of what is unread

pub begins-given : (before after : Option (List ℕ)) (l : Line) → Gives before l after → Begins before l
begins-given None after l g = tt
begins-given (Some xs) None l g = absurd g
begins-given (Some xs) (Some ys) l g = (lines ys, g.line)

pub gives-ended : (before left : Option (List ℕ)) (kept : List ℕ) (at : ℕ) → Keeps before (prepend_known kept left) → line_feed kept ≡ Some at →
    Gives before (record { bytes = take at kept; ended = true }) (prepend_known (drop (at + 1) kept) left)
gives-ended None left kept at keeps found = tt
gives-ended (Some xs) None kept at keeps found = absurd keeps
gives-ended (Some xs) (Some ys) kept at keeps found =
    let P : List ℕ → Type 0 = λ zs. IsFirst (record { bytes = take at kept; ended = true }) zs (drop (at + 1) kept ++ ys) in
    subst P keeps (first-ended kept ys at found)

-- what is kept is all that was unread
kept-all : (xs ys kept : List ℕ) → kept ++ ys ≡ xs → ys ≡ [] → kept ≡ xs
kept-all xs ys kept keeps end = sym (append-nil kept) ∙ ap (λ (zs : List ℕ). kept ++ zs) (sym end) ∙ keeps

pub gives-last : (before left : Option (List ℕ)) (kept : List ℕ) → Keeps before (prepend_known kept left) → IsAtEnd left → line_feed kept ≡ None → 0 < length kept →
    Gives before (record { bytes = kept; ended = false }) (prepend_known [] left)
gives-last None left kept keeps end none some = tt
gives-last (Some xs) None kept keeps end none some = absurd keeps
gives-last (Some xs) (Some ys) kept keeps end none some =
    let P : List ℕ → Type 0 = λ zs. IsFirst (record { bytes = kept; ended = false }) zs [] in
    let Q : List ℕ → Type 0 = λ zs. IsFirst (record { bytes = kept; ended = false }) xs zs in
    subst Q (sym end) (subst P (kept-all xs ys kept keeps end) (first-last kept none some))

pub begins-last : (before left : Option (List ℕ)) (kept : List ℕ) → Keeps before (prepend_known kept left) → IsAtEnd left → line_feed kept ≡ None → 0 < length kept →
    Begins before (record { bytes = kept; ended = false })
begins-last None left kept keeps end none some = tt
begins-last (Some xs) None kept keeps end none some = absurd keeps
begins-last (Some xs) (Some ys) kept keeps end none some = begins-given (Some xs) (Some ys) _ (gives-last (Some xs) (Some ys) kept keeps end none some)

-- ---- a line that is refused before it is whole

-- the first of the lines of these bytes, and that a rule refuses it
pub record Early (before : Option (List ℕ)) (width number rule : ℕ) : Type 0 where
  pub line : Line
  pub first : Begins before line
  pub refused : reading width number line ≡ trace.Refused rule

abbrev most : Bool → ℕ
most many = cond many 0 1024

abbrev rule_of : Bool → ℕ
rule_of many = cond many 3 4

-- line 1,000,001, or a line with more than 1,024 bytes
refused-early : (width number : ℕ) (l : Line) (many : Bool) → nat_lt 1000000 number ≡ many → most many < length l.bytes → reading width number l ≡ trace.Refused (rule_of many)
refused-early width number l true is long = ap (λ (t : Bool). cond t (trace.Refused 3) (cond (nat_lt 1024 (length l.bytes)) (trace.Refused 4) (counted width (numbers (words (content l)))))) is
refused-early width number l false is long =
    ap (λ (t : Bool). cond t (trace.Refused 3) (cond (nat_lt 1024 (length l.bytes)) (trace.Refused 4) (counted width (numbers (words (content l)))))) is
    ∙ ap (λ (t : Bool). cond t (trace.Refused 4) (counted width (numbers (words (content l))))) (lt-ltb 1024 (length l.bytes) long)

most-some : (many : Bool) (n : ℕ) → most many < n → 0 < n
most-some true n h = h
most-some false n h = omega (arith, h)

early-of : (xs ys kept : List ℕ) (width number : ℕ) → kept ++ ys ≡ xs → line_feed kept ≡ None → most (nat_lt 1000000 number) < length kept →
    Early (Some xs) width number (rule_of (nat_lt 1000000 number))
early-of xs ys kept width number keeps none long =
    let some : 0 < length kept = most-some (nat_lt 1000000 number) (length kept) long in
    let has = has_line xs (omega (arith, some, ap (λ (zs : List ℕ). length zs) keeps, length-append kept ys)) in
    let fits : length kept ≤ length (front (lines xs)) = let P : List ℕ → Type 0 = λ zs. length kept ≤ length (front (lines zs)) in subst P keeps (front-long kept ys (no_line_feed kept none)) in
    let longer : length kept ≤ length has.line.bytes = let P : List Line → Type 0 = λ ls. length kept ≤ length (front ls) in subst P has.is fits in
    record {
      line = has.line;
      first = (has.rest, has.is);
      refused = refused-early width number has.line (nat_lt 1000000 number) refl (omega (arith, long, longer));
    }

pub early : (before left : Option (List ℕ)) (kept : List ℕ) (width number m rule : ℕ) → Keeps before (prepend_known kept left) → line_feed kept ≡ None →
    m ≡ cond (nat_lt 1000000 number) 0 1024 → rule ≡ cond (nat_lt 1000000 number) 3 4 → m < length kept → Early before width number rule
early None left kept width number m rule keeps none is so long = record {
  line = record { bytes = kept; ended = false };
  first = tt;
  refused = refused-early width number (record { bytes = kept; ended = false }) (nat_lt 1000000 number) refl (let P : ℕ → Type 0 = λ n. n < length kept in subst P is long) ∙ ap trace.Refused (sym so);
}
early (Some xs) None kept width number m rule keeps none is so long = absurd keeps
early (Some xs) (Some ys) kept width number m rule keeps none is so long =
    let P : ℕ → Type 0 = λ n. n < length kept in
    let Q : ℕ → Type 0 = λ n. Early (Some xs) width number n in
    subst Q (sym so) (early-of xs ys kept width number keeps none (subst P is long))
