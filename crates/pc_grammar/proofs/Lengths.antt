-- How long the fronts of a text are.
use Rattle.std.proofs.Common.{◌≡◌, ℕ, zero, suc, ◌<◌, ◌≤◌, Bool, true, false, not, nat_eq, ◌&&◌, List, [], ◌∷◌, length, take, position, unwrap_or, Option, Some, None, refl, sym, ap, subst, ◌∙◌, arith}
use Rattle.std.proofs.lemmas.List.Quantifiers.{position-Some}
use Rattle.std.specs.List.{list_all}
use Rattle.pc_grammar.specs.Numbers.{is_word}
use Rattle.pc_grammar.specs.Lexing.{before, run_of, line_of}

pub before_within : (test : ℕ → Bool) (bytes : List ℕ) → before test bytes ≤ length bytes
before_within test bytes = by_found (position test bytes) refl
  where
    by_found : (o : Option ℕ) → position test bytes ≡ o → unwrap_or o (length bytes) ≤ length bytes
    by_found None eq = omega arith
    by_found (Some i) eq = let k = position-Some test bytes i 0 eq in let less : i < length bytes = k.0 in omega arith

pub before_some : (test : ℕ → Bool) (b : ℕ) (bytes : List ℕ) → test b ≡ false → 0 < before test (b ∷ bytes)
before_some test b bytes h = by_found (position test (b ∷ bytes)) refl
  where
    by_found : (o : Option ℕ) → position test (b ∷ bytes) ≡ o → 0 < unwrap_or o (length (b ∷ bytes))
    by_found None eq = omega arith
    by_found (Some zero) eq = let k = position-Some test (b ∷ bytes) 0 0 eq in let passes : test b ≡ true = k.1 in let clash : false ≡ true = sym h ∙ passes in cc
    by_found (Some (suc i)) eq = omega arith

pub run_within : (bytes : List ℕ) → run_of bytes ≤ length bytes
run_within bytes = before_within (λ b. not (is_word b)) bytes

pub line_within : (bytes : List ℕ) → line_of bytes ≤ length bytes
line_within bytes = before_within (λ b. nat_eq b 10) bytes

before_skip : (test : ℕ → Bool) (b : ℕ) (bs : List ℕ) → test b ≡ false → before test (b ∷ bs) ≡ suc (before test bs)
before_skip test b bs h = rw h (grind arith)

before_stop : (test : ℕ → Bool) (b : ℕ) (bs : List ℕ) → test b ≡ true → before test (b ∷ bs) ≡ 0
before_stop test b bs h = rw h (grind arith)

both_true : (a b : Bool) → a ≡ true → b ≡ true → (a && b) ≡ true
both_true true b h k = k
both_true false b h k = cc

-- a run's bytes are letters, digits and `_`
pub run_words : (bytes : List ℕ) → list_all is_word (take (run_of bytes) bytes) ≡ true
run_words [] = refl
run_words (b ∷ bs) = by_test (is_word b) refl (run_words bs)
  where
    by_test : (t : Bool) → is_word b ≡ t → list_all is_word (take (run_of bs) bs) ≡ true → list_all is_word (take (run_of (b ∷ bs)) (b ∷ bs)) ≡ true
    by_test true h rest = subst (λ n. list_all is_word (take n (b ∷ bs)) ≡ true) (sym (before_skip (λ b. not (is_word b)) b bs (ap not h))) (both_true (is_word b) _ h rest)
    by_test false h rest = subst (λ n. list_all is_word (take n (b ∷ bs)) ≡ true) (sym (before_stop (λ b. not (is_word b)) b bs (ap not h))) refl

pub ruleset front_steps = (run_within, line_within)
