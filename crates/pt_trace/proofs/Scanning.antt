-- A line read byte by byte gives the numbers of its words.
use Rattle.std.proofs.Common.{◌≡◌, ◌≢◌, ◌<◌, ◌≤◌, ◌+◌, ◌-◌, ◌*◌, ◌^◌, ◌==◌, ◌&&◌, min, ℕ, ℤ, suc, Bool, true, false, cond, nat_lt, List, [], ◌∷◌, ◌++◌, Option, Some, None, length, take, set, refl, sym, ap, ◌∙◌, zero-add, append_assoc, append-nil, arith}
use Rattle.std.specs.List.{AllByRecursion, filter, list_all}
use Rattle.std.proofs.lemmas.List.{take_more_set, take_all, length-set}
use Rattle.std.proofs.lemmas.Bool.{eq-eqb, ne_eqb, eqb-true, le-ltb}
use Rattle.std.proofs.lemmas.Option.{same_Some, none-some}
use Rattle.pt_trace.specs.Trace.{is_blank, is_digit, grows, pieces, has_bytes, words, value_after, natural, signed_up_to, number, before, numbers, counted, Line, content, Reading, Row, Refused, reading}
use Rattle.pt_trace.specs.Scan.{great, after_byte, Filled, placed, ended, resumed, scanned}
use Rattle.pt_trace.specs.declared.line.Scan.{Scan}
use Rattle.pt_trace.specs.declared.line.Scan.TheVariants.{Between, Minus, Digits}

-- ---- words

abbrev pub AllInWord : List ℕ → Type 0
AllInWord w = AllByRecursion (λ (b : ℕ). is_blank b ≡ false) w

-- a word, if it has a byte, before others
abbrev pub word_before : List ℕ → List (List ℕ) → List (List ℕ)
word_before [] ws = ws
word_before (b ∷ bs) ws = (b ∷ bs) ∷ ws

pieces-blank : (w : List ℕ) (b : ℕ) (bs : List ℕ) → AllInWord w → is_blank b ≡ true → pieces (w ++ b ∷ bs) ≡ w ∷ pieces bs
pieces-blank [] b bs all e = ap (λ (t : Bool). cond t ([] ∷ pieces bs) (grows b (pieces bs))) e
pieces-blank (x ∷ xs) b bs all e =
    ap (λ (t : Bool). cond t ([] ∷ pieces (xs ++ b ∷ bs)) (grows x (pieces (xs ++ b ∷ bs)))) all.0
    ∙ ap (grows x) (pieces-blank xs b bs all.1 e)

pieces-end : (w : List ℕ) → AllInWord w → pieces w ≡ w ∷ []
pieces-end [] all = refl
pieces-end (x ∷ xs) all = ap (λ (t : Bool). cond t ([] ∷ pieces xs) (grows x (pieces xs))) all.0 ∙ ap (grows x) (pieces-end xs all.1)

filter-word : (w : List ℕ) (ps : List (List ℕ)) → filter has_bytes (w ∷ ps) ≡ word_before w (filter has_bytes ps)
filter-word [] ps = refl
filter-word (x ∷ xs) ps = refl

words-blank : (w : List ℕ) (b : ℕ) (bs : List ℕ) → AllInWord w → is_blank b ≡ true → words (w ++ b ∷ bs) ≡ word_before w (words bs)
words-blank w b bs all e = ap (filter has_bytes) (pieces-blank w b bs all e) ∙ filter-word w (pieces bs)

words-end : (w : List ℕ) → AllInWord w → words w ≡ word_before w []
words-end w all = ap (filter has_bytes) (pieces-end w all) ∙ filter-word w []

-- ---- the numbers of words

-- after one byte more of a word
abbrev pub stepped : Option Scan → ℕ → Option Scan
stepped None b = None
stepped (Some s) b = after_byte s b

-- the scan after these bytes
abbrev pub folded : Option Scan → List ℕ → Option Scan
folded o [] = o
folded o (b ∷ bs) = folded (stepped o b) bs

folded-none : (bs : List ℕ) → folded None bs ≡ None
folded-none [] = refl
folded-none (b ∷ bs) = folded-none bs

folded-push : (o : Option Scan) (w : List ℕ) (b : ℕ) → folded o (w ++ b ∷ []) ≡ stepped (folded o w) b
folded-push o [] b = refl
folded-push o (x ∷ xs) b = folded-push (stepped o x) xs b

-- a word that ends
abbrev pub stopped : List ℤ → ℕ → Option Scan → Option Filled
stopped row count None = None
stopped row count (Some s) = ended row count s

abbrev pub word_placed : List ℤ → ℕ → List ℕ → Option Filled
word_placed row count [] = Some (row, count)
word_placed row count (b ∷ bs) = placed row count (number (b ∷ bs))

minus_is_no_digit : (d : ℕ) → (d == 45) ≡ true → is_digit d ≡ false
minus_is_no_digit d e = ap is_digit (eqb-true d 45 e)

only_second : {X : Type 0} (a b : Bool) (x : Option X) → (a ≡ true → b ≡ false) → cond a None (cond b x None) ≡ cond b x None
only_second true b x apart = ap (λ (t : Bool). cond t x None) (sym (apart refl))
only_second false b x apart = refl

capped_step : (v d : ℕ) → min (min v great * 10 + d) great ≡ min (v * 10 + d) great
capped_step v d = omega arith

-- digits after digits
by_digit : (t negative : Bool) (v : ℕ) (ds : List ℕ) →
    folded (Some (Digits negative (min v great))) ds ≡ cond (list_all is_digit ds) (Some (Digits negative (min (value_after v ds) great))) None →
    folded (cond t (Some (Digits negative (min v great))) None) ds ≡ cond (t && list_all is_digit ds) (Some (Digits negative (min (value_after v ds) great))) None
by_digit true negative v ds h = h
by_digit false negative v ds h = folded-none ds

run : (negative : Bool) (v : ℕ) (ds : List ℕ) →
    folded (Some (Digits negative (min v great))) ds ≡ cond (list_all is_digit ds) (Some (Digits negative (min (value_after v ds) great))) None
run negative v [] = refl
run negative v (d ∷ ds) =
    ap (λ (o : Option Scan). folded o ds) (only_second (d == 45) (is_digit d) (Some (Digits negative (min (min v great * 10 + (d - 48)) great))) (minus_is_no_digit d))
    ∙ ap (λ (n : ℕ). folded (cond (is_digit d) (Some (Digits negative n)) None) ds) (capped_step v (d - 48))
    ∙ by_digit (is_digit d) negative (v * 10 + (d - 48)) ds (run negative (v * 10 + (d - 48)) ds)

abbrev pub most_of : Bool → ℕ
most_of negative = cond negative (2 ^ 31) (2 ^ 31 - 1)

most_of-lt : (negative : Bool) → most_of negative < great
most_of-lt true = omega arith
most_of-lt false = omega arith

capped : (most v : ℕ) (negative : Bool) → most < great → signed_up_to most negative (Some (min v great)) ≡ signed_up_to most negative (Some v)
capped most v negative h = grind arith

stop_digits : (row : List ℤ) (count : ℕ) (negative u : Bool) (v : ℕ) →
    stopped row count (cond u (Some (Digits negative (min v great))) None) ≡ placed row count (signed_up_to (most_of negative) negative (cond u (Some v) None))
stop_digits row count negative true v = ap (placed row count) (capped (most_of negative) v negative (most_of-lt negative))
stop_digits row count negative false v = refl

digits-end : (row : List ℤ) (count : ℕ) (negative : Bool) (x : ℕ) (xs : List ℕ) →
    stopped row count (folded (cond (is_digit x) (Some (Digits negative (min (0 * 10 + (x - 48)) great))) None) xs) ≡ placed row count (signed_up_to (most_of negative) negative (natural (x ∷ xs)))
digits-end row count negative x xs =
    ap (stopped row count) (by_digit (is_digit x) negative (0 * 10 + (x - 48)) xs (run negative (0 * 10 + (x - 48)) xs))
    ∙ stop_digits row count negative (is_digit x && list_all is_digit xs) (value_after (0 * 10 + (x - 48)) xs)

minus-end : (row : List ℤ) (count : ℕ) (xs : List ℕ) → stopped row count (folded (Some Minus) xs) ≡ placed row count (signed_up_to (2 ^ 31) true (natural xs))
minus-end row count [] = refl
minus-end row count (d ∷ ds) =
    ap (λ (o : Option Scan). stopped row count (folded o ds)) (only_second (d == 45) (is_digit d) (Some (Digits true (min (0 * 10 + (d - 48)) great))) (minus_is_no_digit d))
    ∙ digits-end row count true d ds

first_byte : (row : List ℤ) (count : ℕ) (t : Bool) (x : ℕ) (xs : List ℕ) →
    stopped row count (folded (cond t (Some Minus) (cond (is_digit x) (Some (Digits false (min (0 * 10 + (x - 48)) great))) None)) xs)
    ≡ placed row count (cond t (signed_up_to (2 ^ 31) true (natural xs)) (signed_up_to (2 ^ 31 - 1) false (natural (x ∷ xs))))
first_byte row count true x xs = minus-end row count xs
first_byte row count false x xs = digits-end row count false x xs

word-ends : (row : List ℤ) (count : ℕ) (w : List ℕ) → stopped row count (folded (Some Between) w) ≡ word_placed row count w
word-ends row count [] = refl
word-ends row count (x ∷ xs) = first_byte row count (x == 45) x xs

-- ---- the row

abbrev pub fill : List ℤ → ℕ → List ℤ → List ℤ
fill row count [] = row
fill row count (z ∷ zs) = fill (set row count z) (count + 1) zs

abbrev pub filled : List ℤ → ℕ → Option (List ℤ) → Option Filled
filled row count None = None
filled row count (Some zs) = Some (fill row count zs, count + length zs)

number_filled : (row : List ℤ) (count : ℕ) (n : Option ℤ) (ns : Option (List ℤ)) →
    resumed (placed row count n) (λ r k. filled r k ns) ≡ filled row count (before n ns)
number_filled row count None ns = refl
number_filled row count (Some z) None = refl
number_filled row count (Some z) (Some zs) = ap (λ (k : ℕ). Some (fill (set row count z) (count + 1) zs, k)) (more count (length zs))
  where
    more : (a b : ℕ) → a + 1 + b ≡ a + suc b
    more a b = omega arith

word_filled : (row : List ℤ) (count : ℕ) (w : List ℕ) (ws : List (List ℕ)) →
    resumed (word_placed row count w) (λ r k. filled r k (numbers ws)) ≡ filled row count (numbers (word_before w ws))
word_filled row count [] ws = refl
word_filled row count (b ∷ bs) ws = number_filled row count (number (b ∷ bs)) (numbers ws)

resumed-same : (p : Option Filled) (f g : List ℤ → ℕ → Option Filled) → ((r : List ℤ) (k : ℕ) → f r k ≡ g r k) → resumed p f ≡ resumed p g
resumed-same None f g h = refl
resumed-same (Some p) f g h = h p.0 p.1

resumed-last : (p : Option Filled) → p ≡ resumed p (λ r k. filled r k (Some []))
resumed-last None = refl
resumed-last (Some p) = ap (λ (k : ℕ). Some (p.0, k)) (none p.1)
  where
    none : (a : ℕ) → a ≡ a + 0
    none a = omega arith

-- ---- the whole line

scanned-none : (bs : List ℕ) (row : List ℤ) (count : ℕ) → scanned bs row count None ≡ None
scanned-none [] row count = refl
scanned-none (b ∷ bs) row count = refl

scanned-nil : (o : Option Scan) (row : List ℤ) (count : ℕ) → scanned [] row count o ≡ stopped row count o
scanned-nil None row count = refl
scanned-nil (Some s) row count = refl

scanned-blank : (o : Option Scan) (b : ℕ) (bs : List ℕ) (row : List ℤ) (count : ℕ) → is_blank b ≡ true →
    scanned (b ∷ bs) row count o ≡ resumed (stopped row count o) (λ r k. scanned bs r k (Some Between))
scanned-blank None b bs row count e = refl
scanned-blank (Some s) b bs row count e =
    ap (λ (t : Bool). cond t (resumed (ended row count s) (λ r k. scanned bs r k (Some Between))) (scanned bs row count (after_byte s b))) e

scanned-word : (o : Option Scan) (b : ℕ) (bs : List ℕ) (row : List ℤ) (count : ℕ) → is_blank b ≡ false →
    scanned (b ∷ bs) row count o ≡ scanned bs row count (stepped o b)
scanned-word None b bs row count e = sym (scanned-none bs row count)
scanned-word (Some s) b bs row count e =
    ap (λ (t : Bool). cond t (resumed (ended row count s) (λ r k. scanned bs r k (Some Between))) (scanned bs row count (after_byte s b))) e

all-push : (w : List ℕ) (b : ℕ) → AllInWord w → is_blank b ≡ false → AllInWord (w ++ b ∷ [])
all-push [] b all e = (e, tt)
all-push (x ∷ xs) b all e = (all.0, all-push xs b all.1 e)

-- what a line gives after these bytes of a word
abbrev pub GivesAfter : List ℕ → Type 0
GivesAfter bs = (w : List ℕ) (row : List ℤ) (count : ℕ) → AllInWord w →
    scanned bs row count (folded (Some Between) w) ≡ filled row count (numbers (words (w ++ bs)))

at_byte : (t : Bool) (b : ℕ) (bs : List ℕ) → is_blank b ≡ t → GivesAfter bs → GivesAfter (b ∷ bs)
at_byte true b bs e after w row count all =
    scanned-blank (folded (Some Between) w) b bs row count e
    ∙ ap (λ (p : Option Filled). resumed p (λ r k. scanned bs r k (Some Between))) (word-ends row count w)
    ∙ resumed-same (word_placed row count w) (λ r k. scanned bs r k (Some Between)) (λ r k. filled r k (numbers (words bs))) (λ r k. after [] r k tt)
    ∙ word_filled row count w (words bs)
    ∙ ap (λ (ws : List (List ℕ)). filled row count (numbers ws)) (sym (words-blank w b bs all e))
at_byte false b bs e after w row count all =
    scanned-word (folded (Some Between) w) b bs row count e
    ∙ ap (scanned bs row count) (sym (folded-push (Some Between) w b))
    ∙ after (w ++ b ∷ []) row count (all-push w b all e)
    ∙ ap (λ (xs : List ℕ). filled row count (numbers (words xs))) (append_assoc w (b ∷ []) bs)

after_end : GivesAfter []
after_end w row count all =
    scanned-nil (folded (Some Between) w) row count
    ∙ word-ends row count w
    ∙ resumed-last (word_placed row count w)
    ∙ word_filled row count w []
    ∙ ap (λ (ws : List (List ℕ)). filled row count (numbers ws)) (sym (words-end w all))
    ∙ ap (λ (xs : List ℕ). filled row count (numbers (words xs))) (sym (append-nil w))

scanned_after : (bs : List ℕ) → GivesAfter bs
scanned_after [] = after_end
scanned_after (b ∷ bs) = at_byte (is_blank b) b bs refl (scanned_after bs)

pub scanned_line : (bs : List ℕ) (row : List ℤ) → scanned bs row 0 (Some Between) ≡ filled row 0 (numbers (words bs))
scanned_line bs row = scanned_after bs [] row 0 tt

fill-is : (zs row : List ℤ) (count : ℕ) → count + length zs ≡ length row → fill row count zs ≡ take count row ++ zs
fill-is [] row count e = sym (append-nil (take count row) ∙ take_all count row (omega (arith, e)))
fill-is (z ∷ zs) row count e =
    fill-is zs (set row count z) (count + 1) (omega (arith, e, length-set row count z))
    ∙ ap (λ (xs : List ℤ). xs ++ zs) (take_more_set row count z (omega (arith, e)))
    ∙ append_assoc (take count row) (z ∷ []) zs

-- ---- what the count of numbers says

-- no count: a word is no number
pub no_count : (row : List ℤ) (ns : Option (List ℤ)) → None ≡ filled row 0 ns → (width : ℕ) → counted width ns ≡ Refused 1
no_count row None e width = refl
no_count row (Some zs) e width = absurd (none-some _ e)

-- a count that is the row's: the row holds the numbers
pub same_count : (row new : List ℤ) (count : ℕ) (ns : Option (List ℤ)) → Some (new, count) ≡ filled row 0 ns → count ≡ length row → counted (length row) ns ≡ Row new
same_count row new count None e is = absurd (none-some _ (sym e))
same_count row new count (Some zs) e is =
    let same = same_Some {A = Filled} (new, count) (fill row 0 zs, 0 + length zs) e in
    let counts : count ≡ 0 + length zs = ap (λ (p : Filled). p.1) same in
    let all : 0 + length zs ≡ length row = sym counts ∙ is in
    let len : length zs ≡ length row = sym (zero-add (length zs)) ∙ all in
    ap (λ (t : Bool). cond t (Row zs) (Refused 2)) (eq-eqb (length zs) (length row) len)
    ∙ ap Row (sym (ap (λ (p : Filled). p.0) same ∙ fill-is zs row 0 all))

-- another count
pub other_count : (row new : List ℤ) (count : ℕ) (ns : Option (List ℤ)) → Some (new, count) ≡ filled row 0 ns → count ≢ length row → counted (length row) ns ≡ Refused 2
other_count row new count None e is = absurd (none-some _ (sym e))
other_count row new count (Some zs) e is =
    let same = same_Some {A = Filled} (new, count) (fill row 0 zs, 0 + length zs) e in
    let counts : count ≡ 0 + length zs = ap (λ (p : Filled). p.1) same in
    ap (λ (t : Bool). cond t (Row zs) (Refused 2)) (ne_eqb (length zs) (length row) (λ q. is (omega (arith, counts, q))))

-- ---- a line

-- where T3 and T4 don't refuse a line, its numbers decide
pub judged-is : (width k : ℕ) (l : Line) (r : Reading) → k ≤ 1000000 → length l.bytes ≤ 1024 → counted width (numbers (words (content l))) ≡ r → r ≡ reading width k l
judged-is width k l r few short e =
    sym e
    ∙ ap (λ (t : Bool). cond t (Refused 4) (counted width (numbers (words (content l))))) (sym (le-ltb 1024 (length l.bytes) short))
    ∙ ap (λ (t : Bool). cond t (Refused 3) (cond (nat_lt 1024 (length l.bytes)) (Refused 4) (counted width (numbers (words (content l)))))) (sym (le-ltb 1000000 k few))

-- what the line gives is what its content gives
pub line_scanned : (l : Line) (bytes : List ℕ) (row : List ℤ) (p : Option Filled) → bytes ≡ content l → p ≡ scanned bytes row 0 (Some Between) → p ≡ filled row 0 (numbers (words (content l)))
line_scanned l bytes row p is e = e ∙ scanned_line bytes row ∙ ap (λ (xs : List ℕ). filled row 0 (numbers (words xs))) is
