-- The first sign that stands at the front is a longest one, since the table has the longest first.
use Rattle.std.proofs.Common.{◌≡◌, ℕ, zero, suc, ◌<◌, ◌≤◌, Bool, true, false, cond, nat_eq, nat_le, ◌&&◌, List, [], ◌∷◌, length, get_or, Some, refl, sym, subst, ◌∙◌, arith}
use Rattle.std.specs.List.{All, find, list_all, starts_with}
use Rattle.std.proofs.lemmas.Bool.{leb-true}
use Rattle.pc_grammar.specs.declared.tokens.Sort.{Sort}
use Rattle.pc_grammar.specs.Spelling.{spelling_of, signs}
use Rattle.pc_grammar.specs.Lexing.{sign_of, LongestSign}
use Rattle.pc_grammar.proofs.Found.{both_first, both_second}

abbrev pub no_longer : Sort → Sort → Bool
no_longer first other = nat_le (length (spelling_of other)) (length (spelling_of first))

abbrev pub longest_first : List Sort → Bool
longest_first [] = true
longest_first (s ∷ rest) = list_all (no_longer s) rest && longest_first rest

signs_longest_first : longest_first signs ≡ true
unfolding signs spelling_of
signs_longest_first = refl

all_at : {X : Type 0} (q : X → Bool) (xs : List X) → list_all q xs ≡ true → (k : ℕ) (d : X) → k < length xs → q (get_or xs k d) ≡ true
all_at q [] all k d less = absurd (omega arith)
all_at q (x ∷ xs) all zero d less = both_first (q x) (list_all q xs) all
all_at q (x ∷ xs) all (suc k) d less = all_at q xs (both_second (q x) (list_all q xs) all) k d (omega arith)

-- of the sorts that pass the test, the first one found is a longest
abbrev pub IsLongest : (Sort → Bool) → List Sort → Sort → Type 0
IsLongest test sorts s = All (λ other. test other ≡ true → length (spelling_of other) ≤ length (spelling_of s)) sorts

longest : (test : Sort → Bool) (sorts : List Sort) (s : Sort) → longest_first sorts ≡ true → find test sorts ≡ Some s → IsLongest test sorts s
longest test [] s sorted eq = cc
longest test (x ∷ xs) s sorted eq = by_test (test x) refl eq (longest test xs s (both_second (list_all (no_longer x) xs) (longest_first xs) sorted))
  where
    below : (k : ℕ) (d : Sort) → k < length (x ∷ xs) → length (spelling_of (get_or (x ∷ xs) k d)) ≤ length (spelling_of x)
    below zero d less = omega arith
    below (suc k) d less = leb-true (length (spelling_of (get_or xs k d))) (length (spelling_of x)) (all_at (no_longer x) xs (both_first (list_all (no_longer x) xs) (longest_first xs) sorted) k d (omega arith))

    later : test x ≡ false → IsLongest test xs s → IsLongest test (x ∷ xs) s
    later h rest zero d less passes = let clash : false ≡ true = sym h ∙ passes in cc
    later h rest (suc k) d less passes = rest k d (omega arith) passes

    by_test : (t : Bool) → test x ≡ t → cond t (Some x) (find test xs) ≡ Some s → (find test xs ≡ Some s → IsLongest test xs s) → IsLongest test (x ∷ xs) s
    by_test true h here rest = let same : x ≡ s = cc in λ k d less passes. subst (λ y. length (spelling_of (get_or (x ∷ xs) k d)) ≤ length (spelling_of y)) same (below k d less)
    by_test false h there rest = later h (rest there)

pub longest_sign : LongestSign
unfolding sign_of
longest_sign bytes s eq = longest (λ s. starts_with nat_eq bytes (spelling_of s)) signs s signs_longest_first eq
