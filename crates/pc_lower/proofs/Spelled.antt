-- What the grammar promises of the trees of a program: its expressions are nested as it nests them, and its numbers have 32 bits.
use Rattle.std.proofs.Common.{◌≡◌, ℕ, zero, suc, ◌+◌, ◌<◌, ◌≤◌, ◌^◌, Bool, true, false, cond, ◌&&◌, ◌||◌, List, [], ◌∷◌, ◌++◌, map, drop, length, Option, Some, None, refl, sym, ap, subst, ◌∙◌, arith}
use Rattle.std.specs.Prelude.{nat_lt, nat_eq, not, find}
use Rattle.std.specs.List.{list_all}
use lib.Pointwise.{pointwise}
use Rattle.std.proofs.lemmas.Bool.Decides.{Decides-ltb}
use Rattle.pt_base.specs.Bytes.{is_digit}
use Rattle.pt_base.specs.declared.rules.Rule.TheVariants.{L2}
use Rattle.pc_grammar.specs.declared.tokens.Sort.{Sort}
use Rattle.pc_grammar.specs.declared.tokens.Sort.TheVariants.{Name, Number as NumberSort}
use Rattle.pc_grammar.specs.declared.tokens.Token.{Token}
use Rattle.pc_grammar.specs.declared.fronts.Front.{Front}
use Rattle.pc_grammar.specs.declared.fronts.Front.TheVariants.{Piece, Fault}
use Rattle.pc_grammar.specs.Spelling.{spelling_of, keywords, signs}
use Rattle.pc_grammar.specs.Numbers.{is_word, number_of}
use Rattle.pc_grammar.specs.Lexing.{is_white, run_of, begins, closed_in, number_front, keyword_or_name, word_sort, run_front, sign_front, sign_of, comment_front, front_of, CutEnd, Lexes, done, blank, piece, fault}
use Rattle.pc_grammar.proofs.Found.{found_among}

-- ---- tokens that are numbers

abbrev pub SmallSort : Sort → Type 0
SmallSort s = (value : ℕ) → s ≡ NumberSort value → value < 2 ^ 32

abbrev pub Small : List Token → Type 0
Small [] = Unit {0}
Small (t ∷ ts) = SmallSort t.sort × Small ts

pub small_left : (w v : List Token) → Small (w ++ v) → Small w
small_left [] v h = tt
small_left (t ∷ w) v h = (h.0, small_left w v h.1)

pub small_right : (w v : List Token) → Small (w ++ v) → Small v
small_right [] v h = h
small_right (t ∷ w) v h = small_right w v h.1

abbrev is_number : Sort → Bool
is_number (NumberSort value) = true
is_number _ = false

no_number : (s : Sort) → not (is_number s) ≡ true → SmallSort s
no_number s h value is = let e : not (is_number (NumberSort value)) ≡ true = ap (λ x. not (is_number x)) (sym is) ∙ h in absurd (cc)

signs_spell : list_all (λ s. not (is_number s)) signs ≡ true
unfolding signs spelling_of
signs_spell = refl

keywords_spell : list_all (λ s. not (is_number s)) keywords ≡ true
unfolding keywords spelling_of
keywords_spell = refl

-- what a front is, if it is a token
abbrev SmallFront : Front × ℕ → Type 0
SmallFront f = (s : Sort) → f.0 ≡ Piece s → SmallSort s

number_small : (o : Option ℕ) (n : ℕ) → SmallFront (number_front o, n)
number_small None n s is = absurd (cc)
number_small (Some value) n s is = by (nat_lt value 4294967296) refl is
  where
    by : (b : Bool) → nat_lt value 4294967296 ≡ b → cond b (Piece (NumberSort value)) (Fault L2) ≡ Piece s → SmallSort s
    by true e h other eq =
        let same : NumberSort value ≡ NumberSort other = (let k : NumberSort value ≡ s = cc in k) ∙ eq in
        let small : value < 4294967296 = (Decides-ltb value 4294967296).0 e in
        let which : value ≡ other = cc in
        subst (λ n. n < 2 ^ 32) which (omega arith)
    by false e h other eq = absurd (cc)

word_small : (o : Option Sort) (run : List ℕ) (n : ℕ) → find (λ s. pointwise nat_eq (spelling_of s) run) keywords ≡ o → SmallFront (Piece (keyword_or_name o), n)
word_small None run n e s is = let k : Name ≡ s = cc in subst SmallSort k (no_number Name refl)
word_small (Some keyword) run n e s is =
    let k : keyword ≡ s = cc in
    subst SmallSort k (no_number keyword (found_among (λ x. pointwise nat_eq (spelling_of x) run) (λ x. not (is_number x)) keywords keyword keywords_spell e))

run_small : (run : List ℕ) (n : ℕ) → SmallFront (run_front run, n)
unfolding run_front word_sort
run_small [] n s is = absurd (cc)
run_small (b ∷ rest) n s is = by (is_digit b) is
  where
    by : (t : Bool) → cond t (number_front (number_of (b ∷ rest))) (Piece (word_sort (b ∷ rest))) ≡ Piece s → SmallSort s
    by true h = number_small (number_of (b ∷ rest)) n s h
    by false h = word_small (find (λ x. pointwise nat_eq (spelling_of x) (b ∷ rest)) keywords) (b ∷ rest) n refl s h

sign_small : (o : Option Sort) (bytes : List ℕ) → sign_of bytes ≡ o → SmallFront (sign_front o)
unfolding sign_of
sign_small None bytes e s is = absurd (cc)
sign_small (Some sign) bytes e s is =
    let k : sign ≡ s = cc in
    subst SmallSort k (no_number sign (found_among (λ x. Rattle.std.specs.List.starts_with nat_eq bytes (spelling_of x)) (λ x. not (is_number x)) signs sign signs_spell e))

comment_small : (o : Option ℕ) → SmallFront (comment_front o)
comment_small None s is = absurd (cc)
comment_small (Some n) s is = absurd (cc)

either_small : (t : Bool) (x y : Front × ℕ) → SmallFront x → SmallFront y → SmallFront (cond t x y)
either_small true x y p q = p
either_small false x y p q = q

front_small : (bytes : List ℕ) → SmallFront (front_of bytes)
unfolding front_of
front_small [] = λ s is. absurd (cc)
front_small (b ∷ bs) =
    either_small (is_white b) _ _ (λ s is. absurd (cc))
    (either_small (is_word b) _ _ (run_small (Rattle.std.proofs.Common.take (run_of (b ∷ bs)) (b ∷ bs)) (run_of (b ∷ bs)))
    (either_small (nat_eq b 47 && begins 47 bs) _ _ (λ s is. absurd (cc))
    (either_small (nat_eq b 47 && begins 42 bs) _ _ (comment_small (closed_in (drop 1 bs)))
    (sign_small (sign_of (b ∷ bs)) (b ∷ bs) refl))))

pub cut_small : {at : ℕ} {bytes : List ℕ} {ts : List Token} {e : CutEnd} → Lexes at bytes ts e → Small ts
cut_small done = tt
cut_small (blank some is rest) = cut_small rest
cut_small (piece {bytes = bytes} s some is rest) = (front_small bytes s (ap (λ (f : Front × ℕ). f.0) is), cut_small rest)
cut_small (fault r some is) = tt
