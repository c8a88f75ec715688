-- What is known of each front: it has a byte, it is within the text, and a token has its text.
use Rattle.std.proofs.Common.{◌≡◌, ℕ, suc, ◌<◌, ◌≤◌, Bool, true, false, not, cond, nat_eq, nat_lt, ◌&&◌, List, [], ◌∷◌, length, take, drop, Option, Some, None, refl, sym, ap, subst, arith, length-drop, length-append, ◌++◌}
use Rattle.std.specs.Option.{option_map}
use Rattle.std.proofs.Math.Seq.{take-append_seam}
use Rattle.std.proofs.lemmas.Bool.Decides.{Decides-eqb, Decides-ltb}
use Rattle.std.proofs.lemmas.Slice.Eq.{starts_is, slice_eq-Decides}
use Rattle.std.specs.List.{find, list_all, starts_with}
use lib.Pointwise.{pointwise}
use Rattle.pt_base.specs.declared.rules.Rule.TheVariants.{L2}
use Rattle.pc_grammar.specs.declared.tokens.Sort.{Sort}
use Rattle.pc_grammar.specs.declared.tokens.Sort.TheVariants.{Name, Number}
use Rattle.pc_grammar.specs.declared.fronts.Front.{Front}
use Rattle.pc_grammar.specs.declared.fronts.Front.TheVariants.{Blank, Piece, Fault}
use Rattle.pc_grammar.specs.Spelling.{spelling_of, keywords, signs}
use Rattle.pt_base.specs.Bytes.{is_digit}
use Rattle.pc_grammar.specs.Numbers.{is_word, number_of}
use Rattle.pc_grammar.specs.Lexing.{is_white, run_of, line_of, begins, closed_in, number_front, keyword_or_name, word_sort, run_front, sign_front, sign_of, comment_front, front_of, is_name, TextOf}
use Rattle.pc_grammar.proofs.Found.{found, found_among, both_first, both_second}
use Rattle.pc_grammar.proofs.Lengths.{run_words, run_within, line_within, before_some}

-- a keyword or a sign: the sorts that the table spells
abbrev pub is_fixed : Sort → Bool
is_fixed Name = false
is_fixed (Number value) = false
is_fixed _ = true

abbrev pub has_text : Sort → Bool
has_text s = nat_lt 0 (length (spelling_of s)) && is_fixed s

fixed_text : (s : Sort) (text : List ℕ) → is_fixed s ≡ true → text ≡ spelling_of s → TextOf s text
unfolding TextOf
fixed_text Name text h eq = cc
fixed_text (Number value) text h eq = cc
fixed_text _ text h eq = eq

signs_have_text : list_all has_text signs ≡ true
unfolding signs spelling_of
signs_have_text = refl

keywords_have_text : list_all has_text keywords ≡ true
unfolding keywords spelling_of
keywords_have_text = refl

pub record Facts (bytes : List ℕ) (front : Front × ℕ) : Type 0 where
  pub some : 0 < front.1
  pub within : front.1 ≤ length bytes
  pub text : (s : Sort) → front.0 ≡ Piece s → TextOf s (take front.1 bytes)

either : {bytes : List ℕ} (t : Bool) (x y : Front × ℕ) → (t ≡ true → Facts bytes x) → (t ≡ false → Facts bytes y) → Facts bytes (cond t x y)
either true x y p q = p refl
either false x y p q = q refl

name_or_keyword : (run : List ℕ) (o : Option Sort) → find (λ s. pointwise nat_eq (spelling_of s) run) keywords ≡ o → list_all is_word run ≡ true → run_front run ≡ Piece (keyword_or_name o) → TextOf (keyword_or_name o) run
unfolding TextOf is_name
name_or_keyword run None eq words front = rw words (rw front refl)
name_or_keyword run (Some s) eq words front =
    let same : spelling_of s ≡ run = (slice_eq-Decides Decides-eqb (spelling_of s) run _ refl).0 (found (λ s. pointwise nat_eq (spelling_of s) run) keywords s eq) in
    let has : has_text s ≡ true = found_among (λ s. pointwise nat_eq (spelling_of s) run) has_text keywords s keywords_have_text eq in
    fixed_text s run (both_second (nat_lt 0 (length (spelling_of s))) (is_fixed s) has) (sym same)

number_text : (run : List ℕ) (o : Option ℕ) (s : Sort) → number_of run ≡ o → number_front o ≡ Piece s → TextOf s run
unfolding TextOf
number_text run None s eq front = cc
number_text run (Some value) s eq front = fits (nat_lt value 4294967296) front
  where
    fits : (t : Bool) → cond t (Piece (Number value)) (Fault L2) ≡ Piece s → TextOf s run
    fits true h = let e : Number value ≡ s = cc in subst (λ x. TextOf x run) e eq
    fits false h = cc

run_text : (run : List ℕ) (s : Sort) → list_all is_word run ≡ true → run_front run ≡ Piece s → TextOf s run
unfolding run_front word_sort
run_text [] s words eq = cc
run_text (b ∷ rest) s words eq = by_digit (is_digit b) refl eq
  where
    by_digit : (t : Bool) → is_digit b ≡ t → cond t (number_front (number_of (b ∷ rest))) (Piece (word_sort (b ∷ rest))) ≡ Piece s → TextOf s (b ∷ rest)
    by_digit true h front = number_text (b ∷ rest) (number_of (b ∷ rest)) s refl front
    by_digit false h front =
        let e : word_sort (b ∷ rest) ≡ s = cc in
        subst (λ x. TextOf x (b ∷ rest)) e (name_or_keyword (b ∷ rest) (find (λ s. pointwise nat_eq (spelling_of s) (b ∷ rest)) keywords) refl words (rw h refl))

sign_facts : (bytes : List ℕ) (o : Option Sort) → 0 < length bytes → sign_of bytes ≡ o → Facts bytes (sign_front o)
unfolding sign_of
sign_facts bytes None some eq = record { some = omega arith; within = some; text = λ s e. cc }
sign_facts bytes (Some s) some eq =
    let starts : starts_with nat_eq bytes (spelling_of s) ≡ true = found (λ s. starts_with nat_eq bytes (spelling_of s)) signs s eq in
    let cut : bytes ≡ spelling_of s ++ drop (length (spelling_of s)) bytes = (starts_is Decides-eqb bytes (spelling_of s) _ refl).0 starts in
    let has : has_text s ≡ true = found_among (λ s. starts_with nat_eq bytes (spelling_of s)) has_text signs s signs_have_text eq in
    let spelled : take (length (spelling_of s)) bytes ≡ spelling_of s =
    subst (λ x. take (length (spelling_of s)) x ≡ spelling_of s) (sym cut) (take-append_seam (spelling_of s) (drop (length (spelling_of s)) bytes)) in
    record {
      some = (Decides-ltb 0 (length (spelling_of s))).0 (both_first (nat_lt 0 (length (spelling_of s))) (is_fixed s) has);
      within = omega (arith, ap length cut, length-append (spelling_of s) (drop (length (spelling_of s)) bytes));
      text = λ other e. let same : s ≡ other = cc in
          subst (λ x. TextOf x (take (length (spelling_of s)) bytes)) same (fixed_text s (take (length (spelling_of s)) bytes) (both_second (nat_lt 0 (length (spelling_of s))) (is_fixed s) has) spelled);
    }

within_one_more : (o : Option ℕ) (n most : ℕ) → ((m : ℕ) → o ≡ Some m → m ≤ most) → option_map suc o ≡ Some n → n ≤ suc most
within_one_more None n most h eq = cc
within_one_more (Some m) n most h eq = let e : suc m ≡ n = cc in let k : m ≤ most = h m refl in omega arith

begins_some : (b : ℕ) (bytes : List ℕ) → begins b bytes ≡ true → 1 ≤ length bytes
begins_some b [] h = cc
begins_some b (c ∷ cs) h = omega arith

closed_within : (bytes : List ℕ) (n : ℕ) → closed_in bytes ≡ Some n → n ≤ length bytes
closed_within [] n eq = cc
closed_within (b ∷ bs) n eq = by_end (nat_eq b 42 && begins 47 bs) refl eq (closed_within bs)
  where
    by_end : (t : Bool) → (nat_eq b 42 && begins 47 bs) ≡ t → cond t (Some 2) (option_map suc (closed_in bs)) ≡ Some n → ((m : ℕ) → closed_in bs ≡ Some m → m ≤ length bs) → n ≤ suc (length bs)
    by_end true h e later = let two : 2 ≡ n = cc in let more : 1 ≤ length bs = begins_some 47 bs (both_second (nat_eq b 42) (begins 47 bs) h) in omega arith
    by_end false h e later = within_one_more (closed_in bs) n (length bs) later e

comment_facts : (b : ℕ) (bs : List ℕ) (o : Option ℕ) → begins 42 bs ≡ true → closed_in (drop 1 bs) ≡ o → Facts (b ∷ bs) (comment_front o)
comment_facts b bs None starts eq = let more : 1 ≤ length bs = begins_some 42 bs starts in record { some = omega arith; within = omega arith; text = λ s e. cc }
comment_facts b bs (Some n) starts eq =
    let more : 1 ≤ length bs = begins_some 42 bs starts in
    let n_within : n ≤ length (drop 1 bs) = closed_within (drop 1 bs) n eq in
    record { some = omega arith; within = omega (arith, length-drop 1 bs); text = λ s e. cc }

word_some : (b : ℕ) (bs : List ℕ) → is_word b ≡ true → 0 < run_of (b ∷ bs)
word_some b bs h = before_some (λ b. not (is_word b)) b bs (ap not h)

not_feed : (b : ℕ) → nat_eq b 47 ≡ true → nat_eq b 10 ≡ false
not_feed b h = let e : b ≡ 47 = (Decides-eqb b 47).0 h in subst (λ x. nat_eq x 10 ≡ false) (sym e) refl

line_some : (b : ℕ) (bs : List ℕ) → nat_eq b 47 ≡ true → 0 < line_of (b ∷ bs)
line_some b bs h = before_some (λ b. nat_eq b 10) b bs (not_feed b h)

pub facts : (bytes : List ℕ) → 0 < length bytes → Facts bytes (front_of bytes)
unfolding front_of
facts [] h = absurd (omega arith)
facts (b ∷ bs) h =
    either (is_white b) (Blank, 1) _ (λ w. record { some = omega arith; within = omega arith; text = λ s eq. cc }) (λ not_white.
    either (is_word b) _ _ (λ w. record { some = word_some b bs w; within = run_within (b ∷ bs); text = λ s eq. run_text _ s (run_words (b ∷ bs)) eq }) (λ not_word.
    either (nat_eq b 47 && begins 47 bs) _ _ (λ w. record { some = line_some b bs (both_first (nat_eq b 47) (begins 47 bs) w); within = line_within (b ∷ bs); text = λ s eq. cc }) (λ not_line.
    either (nat_eq b 47 && begins 42 bs) _ _ (λ w. comment_facts b bs (closed_in (drop 1 bs)) (both_second (nat_eq b 47) (begins 42 bs) w) refl) (λ not_comment.
    sign_facts (b ∷ bs) (sign_of (b ∷ bs)) h refl))))
