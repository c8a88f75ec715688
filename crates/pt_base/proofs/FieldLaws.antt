-- The same of a number with the byte that ends it, of numbers behind their count, and of lines behind theirs.
use Rattle.std.proofs.Common.{◌≡◌, ℕ, ◌^◌, ◌<◌, ◌≤◌, false, cond, ltb, List, [], ◌∷◌, ◌++◌, length, Some, None, refl, sym, ap, subst, ◌∙◌, append_assoc, arith}
use Rattle.std.specs.List.{AllByRecursion}
use Rattle.std.specs.Fmt.{decimal}
use Rattle.std.proofs.lemmas.Bool.{ltb-false, le-ltb}
use Rattle.pt_base.specs.Spelling.{each, number_text, blank_number, list_text, numbers_text, count_text, lines_text}
use Rattle.pt_base.specs.Bytes.{is_digit}
use Rattle.pt_base.specs.Reading.{◌>>=◌, Reader, past_at, past_all_at, number_at, number_then_at, blank_number_at, many_at, list_at, numbers_at, count_at, lines_at}
use Rattle.pt_base.proofs.Laws.{Reads, Anything, bind_some, some_is, test_none, past_found, past_again, past_all_found, past_all_again, many_found, many_again}
use Rattle.pt_base.proofs.NumberLaws.{NoDigit, number_found, number_again}
pub use Rattle.pt_base.specs.Reads.{Below, AreNumbers}

then_found : (ends limit : ℕ) → limit ≤ 2 ^ 64 → (bytes : List ℕ) (n : ℕ) (rest : List ℕ) → number_then_at ends limit bytes ≡ Some (n, rest) → Below limit n × (bytes ≡ number_text ends n ++ rest)
unfolding number_then_at
then_found ends limit fits bytes n rest e =
    let a = bind_some (number_at limit bytes) (λ x. past_at ends x.1 >>= λ r. Some (x.0, r)) (n, rest) e in
    let b = bind_some (past_at ends a.0.1) (λ r. Some (a.0.0, r)) (n, rest) a.2 in
    let first = number_found limit bytes a.0.0 a.0.1 fits a.1 in
    let second = past_found ends a.0.1 b.0 b.1 in
    let both : bytes ≡ number_text ends a.0.0 ++ b.0 = first.1 ∙ ap (λ (t : List ℕ). decimal a.0.0 ++ t) second ∙ sym (append_assoc (decimal a.0.0) (ends ∷ []) b.0) in
    subst (λ (y : ℕ × List ℕ). Below limit y.0 × (bytes ≡ number_text ends y.0 ++ y.1)) (some_is (a.0.0, b.0) (n, rest) b.2) (first.0, both)

then_again : (ends limit : ℕ) → limit ≤ 2 ^ 64 → is_digit ends ≡ false → (n : ℕ) (rest : List ℕ) → Below limit n → Anything rest → number_then_at ends limit (number_text ends n ++ rest) ≡ Some (n, rest)
unfolding number_then_at
then_again ends limit fits stop n rest below _ =
    ap (number_then_at ends limit) (append_assoc (decimal n) (ends ∷ []) rest) ∙ rw (number_again limit n (ends ∷ rest) fits below stop, past_again ends rest) refl

pub number_then_reads : (ends limit : ℕ) → limit ≤ 2 ^ 64 → is_digit ends ≡ false → Reads (number_then_at ends limit) (number_text ends) (Below limit) Anything
number_then_reads ends limit fits stop = record { found = then_found ends limit fits; again = then_again ends limit fits stop }

blank_found : (limit : ℕ) → limit ≤ 2 ^ 64 → (bytes : List ℕ) (n : ℕ) (rest : List ℕ) → blank_number_at limit bytes ≡ Some (n, rest) → Below limit n × (bytes ≡ blank_number n ++ rest)
unfolding blank_number_at
blank_found limit fits bytes n rest e =
    let a = bind_some (past_at 32 bytes) (λ r. number_at limit r) (n, rest) e in
    let second = number_found limit a.0 n rest fits a.2 in
    (second.0, past_found 32 bytes a.0 a.1 ∙ ap (λ (t : List ℕ). 32 ∷ t) second.1)

blank_again : (limit : ℕ) → limit ≤ 2 ^ 64 → (n : ℕ) (rest : List ℕ) → Below limit n → NoDigit rest → blank_number_at limit (blank_number n ++ rest) ≡ Some (n, rest)
unfolding blank_number_at
blank_again limit fits n rest below stop = number_again limit n rest fits below stop

pub blank_number_reads : (limit : ℕ) → limit ≤ 2 ^ 64 → Reads (blank_number_at limit) blank_number (Below limit) NoDigit
blank_number_reads limit fits = record { found = blank_found limit fits; again = blank_again limit fits }

list_found : (most limit : ℕ) → most ≤ 2 ^ 64 → limit ≤ 2 ^ 64 → (bytes : List ℕ) (ns rest : List ℕ) → list_at most limit bytes ≡ Some (ns, rest) → AreNumbers most limit ns × (bytes ≡ list_text ns ++ rest)
unfolding list_at
list_found most limit few fits bytes ns rest e =
    let a = bind_some (number_at most bytes) (λ n. many_at (blank_number_at limit) n.0 n.1) (ns, rest) e in
    let first = number_found most bytes a.0.0 a.0.1 few a.1 in
    let second = many_found (blank_number_at limit) blank_number (Below limit) NoDigit (blank_number_reads limit fits) a.0.0 a.0.1 ns rest a.2 in
    let counted : decimal a.0.0 ≡ decimal (length ns) = ap decimal (sym second.0) in
    let both : bytes ≡ list_text ns ++ rest = first.1 ∙ ap (λ (t : List ℕ). decimal a.0.0 ++ t) second.2 ∙ ap (λ (t : List ℕ). t ++ (each blank_number ns ++ rest)) counted ∙ sym (append_assoc (decimal (length ns)) (each blank_number ns) rest) in
    ((omega (arith, first.0, second.0), second.1), both)

blanked_stop : (ns rest : List ℕ) → NoDigit rest → NoDigit (each blank_number ns ++ rest)
blanked_stop [] rest stop = stop
blanked_stop (n ∷ ns) rest stop = refl

list_again : (most limit : ℕ) → most ≤ 2 ^ 64 → limit ≤ 2 ^ 64 → (ns rest : List ℕ) → AreNumbers most limit ns → NoDigit rest → list_at most limit (list_text ns ++ rest) ≡ Some (ns, rest)
unfolding list_at
list_again most limit few fits ns rest are stop =
    ap (list_at most limit) (append_assoc (decimal (length ns)) (each blank_number ns) rest)
    ∙ rw (number_again most (length ns) (each blank_number ns ++ rest) few are.0 (blanked_stop ns rest stop)) (many_again (blank_number_at limit) blank_number (Below limit) NoDigit (blank_number_reads limit fits) (λ x r. refl) ns rest are.1 stop)

pub list_reads : (most limit : ℕ) → most ≤ 2 ^ 64 → limit ≤ 2 ^ 64 → Reads (list_at most limit) list_text (AreNumbers most limit) NoDigit
list_reads most limit few fits = record { found = list_found most limit few fits; again = list_again most limit few fits }

numbers_found : (ends most limit : ℕ) → most ≤ 2 ^ 64 → limit ≤ 2 ^ 64 → (bytes : List ℕ) (ns rest : List ℕ) → numbers_at ends most limit bytes ≡ Some (ns, rest) → AreNumbers most limit ns × (bytes ≡ numbers_text ends ns ++ rest)
unfolding numbers_at
numbers_found ends most limit few fits bytes ns rest e =
    let a = bind_some (list_at most limit bytes) (λ x. past_at ends x.1 >>= λ r. Some (x.0, r)) (ns, rest) e in
    let b = bind_some (past_at ends a.0.1) (λ r. Some (a.0.0, r)) (ns, rest) a.2 in
    let first = list_found most limit few fits bytes a.0.0 a.0.1 a.1 in
    let both : bytes ≡ numbers_text ends a.0.0 ++ b.0 = first.1 ∙ ap (λ (t : List ℕ). list_text a.0.0 ++ t) (past_found ends a.0.1 b.0 b.1) ∙ sym (append_assoc (list_text a.0.0) (ends ∷ []) b.0) in
    subst (λ (y : List ℕ × List ℕ). AreNumbers most limit y.0 × (bytes ≡ numbers_text ends y.0 ++ y.1)) (some_is (a.0.0, b.0) (ns, rest) b.2) (first.0, both)

numbers_again : (ends most limit : ℕ) → most ≤ 2 ^ 64 → limit ≤ 2 ^ 64 → is_digit ends ≡ false → (ns rest : List ℕ) → AreNumbers most limit ns → Anything rest → numbers_at ends most limit (numbers_text ends ns ++ rest) ≡ Some (ns, rest)
unfolding numbers_at
numbers_again ends most limit few fits stop ns rest are _ =
    ap (numbers_at ends most limit) (append_assoc (list_text ns) (ends ∷ []) rest) ∙ rw (list_again most limit few fits ns (ends ∷ rest) are stop, past_again ends rest) refl

pub numbers_read : (ends most limit : ℕ) → most ≤ 2 ^ 64 → limit ≤ 2 ^ 64 → is_digit ends ≡ false → Reads (numbers_at ends most limit) (numbers_text ends) (AreNumbers most limit) Anything
numbers_read ends most limit few fits stop = record { found = numbers_found ends most limit few fits; again = numbers_again ends most limit few fits stop }

-- ---- lines behind their count

count_found : (name : List ℕ) (least limit : ℕ) → limit ≤ 2 ^ 64 → (bytes : List ℕ) (n : ℕ) (rest : List ℕ) → count_at name least limit bytes ≡ Some (n, rest) → ((least ≤ n) × (n < limit)) × (bytes ≡ count_text name n ++ rest)
unfolding count_at
count_found name least limit fits bytes n rest e =
    let a = bind_some (past_all_at name bytes) (λ r. number_then_at 10 limit r >>= λ x. cond (ltb x.0 least) None (Some x)) (n, rest) e in
    let b = bind_some (number_then_at 10 limit a.0) (λ x. cond (ltb x.0 least) None (Some x)) (n, rest) a.2 in
    let t = test_none (ltb b.0.0 least) (Some b.0) (n, rest) b.2 in
    let second = then_found 10 limit fits a.0 b.0.0 b.0.1 b.1 in
    let both : bytes ≡ count_text name b.0.0 ++ b.0.1 = past_all_found name bytes a.0 a.1 ∙ ap (λ (t : List ℕ). name ++ t) second.1 ∙ sym (append_assoc name (number_text 10 b.0.0) b.0.1) in
    subst (λ (y : ℕ × List ℕ). ((least ≤ y.0) × (y.0 < limit)) × (bytes ≡ count_text name y.0 ++ y.1)) (some_is b.0 (n, rest) t.1) ((ltb-false b.0.0 least t.0, second.0), both)

count_again : (name : List ℕ) (least limit : ℕ) → limit ≤ 2 ^ 64 → (n : ℕ) (rest : List ℕ) → least ≤ n → n < limit → count_at name least limit (count_text name n ++ rest) ≡ Some (n, rest)
unfolding count_at
count_again name least limit fits n rest enough below =
    ap (count_at name least limit) (append_assoc name (number_text 10 n) rest) ∙ rw (past_all_again name (number_text 10 n ++ rest), then_again 10 limit fits refl n rest below tt, le-ltb n least enough) refl

pub count_reads : (name : List ℕ) (least limit : ℕ) → limit ≤ 2 ^ 64 → Reads (count_at name least limit) (count_text name) (λ n. (least ≤ n) × (n < limit)) Anything
count_reads name least limit fits = record { found = count_found name least limit fits; again = λ n rest is stop. count_again name least limit fits n rest is.0 is.1 }

-- from `least` on and fewer than the limit, each within its range
abbrev pub AreLines : {A : Type 0} → ℕ → ℕ → (A → Type 0) → List A → Type 0
AreLines least limit IsIn xs = (least ≤ length xs) × (length xs < limit) × AllByRecursion IsIn xs

lines_found : {A : Type 0} (name : List ℕ) (least limit : ℕ) (read : Reader A) (spell : A → List ℕ) (IsIn : A → Type 0) → limit ≤ 2 ^ 64 → Reads read spell IsIn Anything
    → (bytes : List ℕ) (xs : List A) (rest : List ℕ) → lines_at name least limit read bytes ≡ Some (xs, rest) → AreLines least limit IsIn xs × (bytes ≡ lines_text name spell xs ++ rest)
unfolding lines_at
lines_found name least limit read spell IsIn fits reads bytes xs rest e =
    let a = bind_some (count_at name least limit bytes) (λ n. many_at read n.0 n.1) (xs, rest) e in
    let first = count_found name least limit fits bytes a.0.0 a.0.1 a.1 in
    let second = many_found read spell IsIn Anything reads a.0.0 a.0.1 xs rest a.2 in
    let counted : count_text name a.0.0 ≡ count_text name (length xs) = ap (count_text name) (sym second.0) in
    let both : bytes ≡ lines_text name spell xs ++ rest = first.1 ∙ ap (λ (t : List ℕ). count_text name a.0.0 ++ t) second.2 ∙ ap (λ (t : List ℕ). t ++ (each spell xs ++ rest)) counted ∙ sym (append_assoc (count_text name (length xs)) (each spell xs) rest) in
    ((omega (arith, first.0.0, second.0), omega (arith, first.0.1, second.0), second.1), both)

lines_again : {A : Type 0} (name : List ℕ) (least limit : ℕ) (read : Reader A) (spell : A → List ℕ) (IsIn : A → Type 0) → limit ≤ 2 ^ 64 → Reads read spell IsIn Anything
    → (xs : List A) (rest : List ℕ) → AreLines least limit IsIn xs → Anything rest → lines_at name least limit read (lines_text name spell xs ++ rest) ≡ Some (xs, rest)
unfolding lines_at
lines_again {A} name least limit read spell IsIn fits reads xs rest are _ =
    ap (lines_at name least limit read) (append_assoc (count_text name (length xs)) (each spell xs) rest)
    ∙ rw (count_again name least limit fits (length xs) (each spell xs ++ rest) are.0 are.1) (many_again read spell IsIn Anything reads (λ x r. tt) xs rest are.2 tt)

pub lines_read : {A : Type 0} (name : List ℕ) (least limit : ℕ) (read : Reader A) (spell : A → List ℕ) (IsIn : A → Type 0) → limit ≤ 2 ^ 64 → Reads read spell IsIn Anything
    → Reads (lines_at name least limit read) (lines_text name spell) (AreLines least limit IsIn) Anything
lines_read name least limit read spell IsIn fits reads = record { found = lines_found name least limit read spell IsIn fits reads; again = lines_again name least limit read spell IsIn fits reads }

pub number_reads : (limit : ℕ) → limit ≤ 2 ^ 64 → Reads (number_at limit) decimal (Below limit) NoDigit
number_reads limit fits = record { found = λ bytes n rest e. number_found limit bytes n rest fits e; again = λ n rest below stop. number_again limit n rest fits below stop }
