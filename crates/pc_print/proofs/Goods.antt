-- The tokens of a text have names that are names, and numbers of 32 bits.
use Rattle.std.proofs.Common.{◌≡◌, ℕ, suc, ◌<◌, Bool, true, false, cond, nat_eq, nat_lt, ◌&&◌, List, [], ◌∷◌, take, drop, slice_range, Option, Some, None, refl, ap, subst, ◌∙◌, arith}
use Rattle.std.proofs.lemmas.Bool.{ltb-true}
use Rattle.std.specs.List.{find, list_all, starts_with}
use lib.Pointwise.{pointwise}
use Rattle.pt_base.specs.declared.rules.Rule.TheVariants.{L2}
use Rattle.pc_grammar.specs.declared.tokens.Sort.{Sort}
use Rattle.pc_grammar.specs.declared.tokens.Sort.TheVariants.{Name, Number}
use Rattle.pc_grammar.specs.declared.tokens.Token.{Token}
use Rattle.pc_grammar.specs.declared.fronts.Front.{Front}
use Rattle.pc_grammar.specs.declared.fronts.Front.TheVariants.{Blank, Piece, Fault}
use Rattle.pc_grammar.specs.Spelling.{spelling_of, keywords, signs}
use Rattle.pt_base.specs.Bytes.{is_digit}
use Rattle.pc_grammar.specs.Numbers.{is_word, number_of}
use Rattle.pc_grammar.specs.Lexing.{is_white, run_of, begins, closed_in, number_front, keyword_or_name, word_sort, run_front, sign_front, sign_of, comment_front, front_of, is_name, TextOf, AreSlices, CutEnd, Lexes, done, blank, piece, fault}
use Rattle.pc_grammar.proofs.Found.{found_among}
use Rattle.pc_grammar.proofs.Cuts.{known}
use Rattle.pc_print.proofs.Sound.{Goods}

-- what begins a text isn't a number of more than 32 bits
record SmallFront (front : Front × ℕ) : Type 0 where
  small : (n : ℕ) → front.0 ≡ Piece (Number n) → n < 4294967296

either : (t : Bool) (x y : Front × ℕ) → SmallFront x → SmallFront y → SmallFront (cond t x y)
either true x y p q = p
either false x y p q = q

no_number : Sort → Bool
no_number (Number n) = false
no_number _ = true

number_or_not : (s : Sort) (n : ℕ) → no_number s ≡ true → s ≡ Number n → ⊥
unfolding no_number
number_or_not s n h eq = let clash : no_number (Number n) ≡ true = subst (λ x. no_number x ≡ true) eq h in cc

keywords_no_numbers : list_all no_number keywords ≡ true
unfolding keywords no_number
keywords_no_numbers = refl

signs_no_numbers : list_all no_number signs ≡ true
unfolding signs no_number
signs_no_numbers = refl

small_number : (o : Option ℕ) (n : ℕ) → number_front o ≡ Piece (Number n) → n < 4294967296
small_number None n eq = cc
small_number (Some value) n eq = by_test (nat_lt value 4294967296) refl eq
  where
    by_test : (t : Bool) → nat_lt value 4294967296 ≡ t → cond t (Piece (Number value)) (Fault L2) ≡ Piece (Number n) → n < 4294967296
    by_test true h e = let same : value ≡ n = cc in subst (λ x. x < 4294967296) same (ltb-true value 4294967296 h)
    by_test false h e = cc

small_word : (run : List ℕ) (o : Option Sort) (n : ℕ) → find (λ s. pointwise nat_eq (spelling_of s) run) keywords ≡ o → Piece (keyword_or_name o) ≡ Piece (Number n) → n < 4294967296
small_word run None n eq e = cc
small_word run (Some s) n eq e =
    let same : s ≡ Number n = cc in
    absurd (number_or_not s n (found_among (λ s. pointwise nat_eq (spelling_of s) run) no_number keywords s keywords_no_numbers eq) same)

small_run : (run : List ℕ) (n : ℕ) → run_front run ≡ Piece (Number n) → n < 4294967296
unfolding run_front word_sort
small_run [] n eq = cc
small_run (b ∷ rest) n eq = by_digit (is_digit b) eq
  where
    by_digit : (t : Bool) → cond t (number_front (number_of (b ∷ rest))) (Piece (word_sort (b ∷ rest))) ≡ Piece (Number n) → n < 4294967296
    by_digit true e = small_number (number_of (b ∷ rest)) n e
    by_digit false e = small_word (b ∷ rest) (find (λ s. pointwise nat_eq (spelling_of s) (b ∷ rest)) keywords) n refl e

small_sign : (bytes : List ℕ) (o : Option Sort) → sign_of bytes ≡ o → SmallFront (sign_front o)
unfolding sign_of
small_sign bytes None eq = record { small = λ n e. cc }
small_sign bytes (Some s) eq = record {
  small = λ n e.
      let same : s ≡ Number n = cc in
      absurd (number_or_not s n (found_among (λ s. starts_with nat_eq bytes (spelling_of s)) no_number signs s signs_no_numbers eq) same);
}

small_comment : (o : Option ℕ) → SmallFront (comment_front o)
small_comment None = record { small = λ n e. cc }
small_comment (Some m) = record { small = λ n e. cc }

small_front : (bytes : List ℕ) → SmallFront (front_of bytes)
unfolding front_of
small_front [] = record { small = λ n e. cc }
small_front (b ∷ bs) =
    either (is_white b) (Blank, 1) _ (record { small = λ n e. cc })
    (either (is_word b) _ _ (record { small = λ n e. small_run (take (run_of (b ∷ bs)) (b ∷ bs)) n e })
    (either (nat_eq b 47 && begins 47 bs) _ _ (record { small = λ n e. cc })
    (either (nat_eq b 47 && begins 42 bs) _ _ (small_comment (closed_in (drop 1 bs))) (small_sign (b ∷ bs) (sign_of (b ∷ bs)) refl))))

abbrev Smalls : List Token → Type 0
Smalls [] = Unit {0}
Smalls (t ∷ ts) = ((n : ℕ) → t.sort ≡ Number n → n < 4294967296) × Smalls ts

smalls : {at : ℕ} {bytes : List ℕ} {ts : List Token} {e : CutEnd} → Lexes at bytes ts e → Smalls ts
smalls done = tt
smalls (blank some is d) = smalls d
smalls (piece {bytes = bytes} s some is d) =
    (λ n eq. (small_front bytes).small n (ap (λ (x : Front × ℕ). x.0) is ∙ ap Piece eq), smalls d)
smalls (fault r some is) = tt

name_of : (s : Sort) (bytes : List ℕ) → TextOf s bytes → s ≡ Name → is_name bytes ≡ true
unfolding TextOf
name_of s bytes h eq = let k : TextOf Name bytes = subst (λ x. TextOf x bytes) eq h in k

all_good : (source : List ℕ) (ts : List Token) → AreSlices source ts → Smalls ts → Goods source ts
all_good source [] slices small = tt
all_good source (t ∷ ts) slices small =
    let P : Token → Type 0 = λ u. TextOf u.sort (slice_range source u.span.from u.span.to) in
    let here : P t = slices 0 t (omega arith) in
    (record { name = name_of t.sort (slice_range source t.span.from t.span.to) here; small = small.0 }, all_good source ts (λ k d within. slices (suc k) d (omega arith)) small.1)

pub goods : (source : List ℕ) (ts : List Token) (e : CutEnd) → Lexes 0 source ts e → Goods source ts
goods source ts e d = all_good source ts (known d source refl (omega arith)).slices (smalls d)
