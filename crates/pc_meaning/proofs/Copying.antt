-- Words that go over between two stores.
use Rattle.std.proofs.Common.{◌≡◌, ◌≢◌, ℕ, ℤ, List, [], ◌∷◌, ◌++◌, ◌⊎◌, ⊎_elim, refl, sym, ap, ◌∙◌, arith}
use Rattle.std.specs.Prelude.{slice_set, pos}
use Rattle.std.proofs.lemmas.List.{set-set, set_comm, set-get_or, get_or-set_other}
use Rattle.pc_meaning.specs.Values.{Store, word_at}
use Rattle.pc_meaning.specs.Cells.{copied, DifferAt}

-- one place more
pub copied-more : (places : List ℕ) (place : ℕ) (from into : Store) → copied (places ++ place ∷ []) from into ≡ slice_set (copied places from into) place (word_at from place)
copied-more [] place from into = refl
copied-more (p ∷ places) place from into = copied-more places place from (slice_set into p (word_at from p))

same_or_other : (i j : ℕ) → (i ≡ j) ⊎ (i ≢ j)
same_or_other i j = grind arith

-- the word at a place that is written afterwards doesn't matter
into_over : (places : List ℕ) (from into : Store) (place : ℕ) (a c : ℤ) → slice_set (copied places from (slice_set into place a)) place c ≡ slice_set (copied places from into) place c
into_over [] from into place a c = set-set into place a c
into_over (p ∷ places) from into place a c = ⊎_elim
    (λ (e : place ≡ p). ap (λ s. slice_set (copied places from s) place c) (ap (λ k. slice_set (slice_set into k a) p (word_at from p)) e ∙ set-set into p a (word_at from p)))
    (λ (n : place ≢ p). ap (λ s. slice_set (copied places from s) place c) (set_comm into place p a (word_at from p) n)
    ∙ into_over places from (slice_set into p (word_at from p)) place a c)
    (same_or_other place p)

from_over : (places : List ℕ) (from into : Store) (place : ℕ) (a c : ℤ) → slice_set (copied places (slice_set from place a) into) place c ≡ slice_set (copied places from into) place c
from_over [] from into place a c = refl
from_over (p ∷ places) from into place a c =
    let w = word_at (slice_set from place a) p in
    from_over places from (slice_set into p w) place a c ∙ ⊎_elim
    (λ (e : p ≡ place).
    let into_at = λ (v : ℤ). ap (λ k. slice_set (copied places from (slice_set into k v)) place c) e ∙ into_over places from into place v c in
    into_at w ∙ sym (into_at (word_at from p)))
    (λ (n : p ≢ place). ap (λ v. slice_set (copied places from (slice_set into p v)) place c) (get_or-set_other from place p a (pos 0) n))
    (same_or_other p place)

set-read : (store : Store) (place : ℕ) (word : ℤ) → slice_set store place (word_at (slice_set store place word) place) ≡ slice_set store place word
set-read store place word = sym (set-set store place word (word_at (slice_set store place word) place)) ∙ set-get_or (slice_set store place word) place (pos 0)

-- the stores differ at one place more once a word is written there
pub differ-more : (places : List ℕ) (current before : Store) (place : ℕ) (word : ℤ) → DifferAt places current before → DifferAt (places ++ place ∷ []) (slice_set current place word) before
differ-more places current before place word h = record {
  onward =
      let w = word_at (slice_set current place word) place in
      copied-more places place (slice_set current place word) before
      ∙ from_over places current before place word w
      ∙ ap (λ s. slice_set s place w) h.onward
      ∙ set-read current place word;
  back =
      copied-more places place before (slice_set current place word)
      ∙ into_over places before current place word (word_at before place)
      ∙ ap (λ s. slice_set s place (word_at before place)) h.back
      ∙ set-get_or before place (pos 0);
}
