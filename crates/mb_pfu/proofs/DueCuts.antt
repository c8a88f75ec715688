-- An answer that drops a strong abort takes off the tests of its slot and of the group below it; any other takes off the first test.
use Rattle.std.proofs.Common.{◌≡◌, ℕ, ◌+◌, Bool, true, false, List, [], ◌∷◌, ◌++◌, take, None, refl, sym, ap, ◌∙◌, add-one}
use Rattle.mb_pfu.specs.declared.parts.Watch.{Watch}
use Rattle.mb_pfu.specs.Rows.{due, any_due, first_due, watch_due, with_answer, is_cut}
use Rattle.mb_pfu.specs.Tree.{Tree, Group, Leaf, Waits, no_more, member, Running, is_in, is_among, at_slot, at_member, report, report_among, reported_watches, watches_in, watches_at, answer_at, test_answered}
use Rattle.mb_pfu.specs.DueList.{tests_from, tests_then, group_tests_then, due_tests, rest_of, first_tests, group_first_tests}
use Rattle.mb_pfu.proofs.Cases.{split, or_else-some, none-there}
use Rattle.mb_pfu.proofs.Trees.{is_in-report}
use Rattle.mb_pfu.proofs.DueLists.{none-from, none-then, answer-rest}

tests-append : (k i : ℕ) (watches : List Watch) (rest more : List (ℕ × ℕ)) → tests_from k i watches (rest ++ more) ≡ tests_from k i watches rest ++ more
tests-append k i [] rest more = refl
tests-append k i (w ∷ watches) rest more =
    split w.due
    (λ b. rw b (ap (λ (xs : List (ℕ × ℕ)). (k, i) ∷ xs) (tests-append k (i + 1) watches rest more)))
    (λ b. rw b (tests-append k (i + 1) watches rest more))

mutual
  then-append : (k : ℕ) (t : Tree) (rest more : List (ℕ × ℕ)) → tests_then k t (rest ++ more) ≡ tests_then k t rest ++ more
  then-append k (Leaf watches activity) rest more = tests-append k 0 watches rest more
  then-append k (Waits watches at lo group) rest more =
      ap (λ (xs : List (ℕ × ℕ)). tests_from k 0 watches xs) (group-append lo group rest more) ∙ tests-append k 0 watches (group_tests_then lo group rest) more

  group-append : (k : ℕ) (ts : Group) (rest more : List (ℕ × ℕ)) → group_tests_then k ts (rest ++ more) ≡ group_tests_then k ts rest ++ more
  group-append k no_more rest more = refl
  group-append k (member t ts) rest more =
      ap (λ (xs : List (ℕ × ℕ)). tests_then k t xs) (group-append (k + 1) ts rest more) ∙ then-append k t (group_tests_then (k + 1) ts rest) more

-- outside the first entry that is due none is
none-before : (k i : ℕ) (watches : List Watch) (rest : List (ℕ × ℕ)) → tests_from k i (take (first_due watches) watches) rest ≡ rest
none-before k i [] rest = refl
none-before k i (w ∷ watches) rest =
    split w.due
    (λ b. rw b refl)
    (λ b. rw (b, add-one (first_due watches)) (none-before k (i + 1) watches rest))

at-cut : (fired : Bool) (u : Tree) → is_cut fired (watches_in u) ≡ true → answer_at fired u ≡ Leaf (take (first_due (watches_in u)) (watches_in u)) (Running (watch_due (watches_in u)).entry.handler)
at-cut fired u e = rw e refl

at-kept : (fired : Bool) (u : Tree) → is_cut fired (watches_in u) ≡ false → answer_at fired u ≡ watches_at (with_answer fired) u
at-kept fired u e = rw e refl

-- the aborts of the first slot with a test
abbrev first_watches : ℕ → Tree → List Watch
first_watches k t = reported_watches (report due k t)

abbrev group_first_watches : ℕ → Group → List Watch
group_first_watches k ts = reported_watches (report_among due k ts)

first-here : (k : ℕ) (t : Tree) (ts : Group) → is_in due k t ≡ true → group_first_watches k (member t ts) ≡ first_watches k t
first-here k t ts b = ap reported_watches (or_else-some (report due k t) (report_among due (k + 1) ts) (sym (is_in-report due k t) ∙ b))

first-later : (k : ℕ) (t : Tree) (ts : Group) → is_in due k t ≡ false → group_first_watches k (member t ts) ≡ group_first_watches (k + 1) ts
first-later k t ts b = let none : report due k t ≡ None = none-there (report due k t) (sym (is_in-report due k t) ∙ b) in rw none refl

mutual
  cut-then : (fired : Bool) (k : ℕ) (t : Tree) (rest : List (ℕ × ℕ)) → is_in due k t ≡ true → is_cut fired (first_watches k t) ≡ true →
      tests_then k t rest ≡ first_tests k t ++ tests_then k (at_slot due (answer_at fired) (λ u. u) k t) rest
  cut-then fired k (Leaf watches activity) rest h cut =
      let cut' : is_cut fired watches ≡ true = rw h at cut in
      rw h (tests-append k 0 watches [] rest
      ∙ ap (λ (xs : List (ℕ × ℕ)). tests_from k 0 watches [] ++ xs) (sym (ap (λ u. tests_then k u rest) (at-cut fired (Leaf watches activity) cut') ∙ none-before k 0 watches rest)))
  cut-then fired k (Waits watches at lo group) rest h cut =
      split (any_due watches)
      (λ b.
      let cut' : is_cut fired watches ≡ true = rw b at cut in
      rw b (ap (λ (xs : List (ℕ × ℕ)). tests_from k 0 watches xs) (group-append lo group [] rest) ∙ tests-append k 0 watches (group_tests_then lo group []) rest
      ∙ ap (λ (xs : List (ℕ × ℕ)). tests_from k 0 watches (group_tests_then lo group []) ++ xs)
      (sym (ap (λ u. tests_then k u rest) (at-cut fired (Waits watches at lo group) cut') ∙ none-before k 0 watches rest))))
      (λ b.
      let among : is_among due lo group ≡ true = rw b at h in
      let cut' : is_cut fired (group_first_watches lo group) ≡ true = rw b at cut in
      rw (b, among) (none-from k 0 watches (group_tests_then lo group rest) b ∙ cut-group fired lo group rest among cut'
      ∙ ap (λ (xs : List (ℕ × ℕ)). group_first_tests lo group ++ xs) (sym (none-from k 0 watches (group_tests_then lo (at_member due (answer_at fired) (λ u. u) lo group) rest) b))))

  cut-group : (fired : Bool) (k : ℕ) (ts : Group) (rest : List (ℕ × ℕ)) → is_among due k ts ≡ true → is_cut fired (group_first_watches k ts) ≡ true →
      group_tests_then k ts rest ≡ group_first_tests k ts ++ group_tests_then k (at_member due (answer_at fired) (λ u. u) k ts) rest
  cut-group fired k no_more rest h cut = cc
  cut-group fired k (member t ts) rest h cut =
      split (is_in due k t)
      (λ b.
      let cut' : is_cut fired (first_watches k t) ≡ true = ap (is_cut fired) (sym (first-here k t ts b)) ∙ cut in
      rw b (cut-then fired k t (group_tests_then (k + 1) ts rest) b cut'))
      (λ b.
      let more : is_among due (k + 1) ts ≡ true = rw b at h in
      let cut' : is_cut fired (group_first_watches (k + 1) ts) ≡ true = ap (is_cut fired) (sym (first-later k t ts b)) ∙ cut in
      rw b (none-then k t (group_tests_then (k + 1) ts rest) b ∙ cut-group fired (k + 1) ts rest more cut'
      ∙ ap (λ (xs : List (ℕ × ℕ)). group_first_tests (k + 1) ts ++ xs) (sym (none-then k t (group_tests_then (k + 1) (at_member due (answer_at fired) (λ u. u) (k + 1) ts) rest) b))))

-- a strong abort that is dropped takes with it the tests of its slot and of the group below it, and no others
pub cut-tests : (fired : Bool) (t : Tree) → is_in due 0 t ≡ true → is_cut fired (first_watches 0 t) ≡ true → due_tests t ≡ first_tests 0 t ++ due_tests (test_answered fired t)
cut-tests fired t h cut = cut-then fired 0 t [] h cut

mutual
  kept-at : (fired : Bool) (k : ℕ) (t : Tree) → is_in due k t ≡ true → is_cut fired (first_watches k t) ≡ false →
      at_slot due (answer_at fired) (λ u. u) k t ≡ at_slot due (watches_at (with_answer fired)) (λ u. u) k t
  kept-at fired k (Leaf watches activity) h cut =
      let cut' : is_cut fired watches ≡ false = rw h at cut in
      rw h (at-kept fired (Leaf watches activity) cut')
  kept-at fired k (Waits watches at lo group) h cut =
      split (any_due watches)
      (λ b.
      let cut' : is_cut fired watches ≡ false = rw b at cut in
      rw b (at-kept fired (Waits watches at lo group) cut'))
      (λ b.
      let among : is_among due lo group ≡ true = rw b at h in
      let cut' : is_cut fired (group_first_watches lo group) ≡ false = rw b at cut in
      rw (b, among) (ap (Waits watches at lo) (kept-at_member fired lo group among cut')))

  kept-at_member : (fired : Bool) (k : ℕ) (ts : Group) → is_among due k ts ≡ true → is_cut fired (group_first_watches k ts) ≡ false →
      at_member due (answer_at fired) (λ u. u) k ts ≡ at_member due (watches_at (with_answer fired)) (λ u. u) k ts
  kept-at_member fired k no_more h cut = cc
  kept-at_member fired k (member t ts) h cut =
      split (is_in due k t)
      (λ b.
      let cut' : is_cut fired (first_watches k t) ≡ false = ap (is_cut fired) (sym (first-here k t ts b)) ∙ cut in
      rw b (ap (λ u. member u ts) (kept-at fired k t b cut')))
      (λ b.
      let more : is_among due (k + 1) ts ≡ true = rw b at h in
      let cut' : is_cut fired (group_first_watches (k + 1) ts) ≡ false = ap (is_cut fired) (sym (first-later k t ts b)) ∙ cut in
      rw b (ap (member t) (kept-at_member fired (k + 1) ts more cut')))

-- any other answer takes off the first test
pub kept-tests : (fired : Bool) (t : Tree) → is_in due 0 t ≡ true → is_cut fired (first_watches 0 t) ≡ false → due_tests (test_answered fired t) ≡ rest_of (due_tests t)
kept-tests fired t h cut = ap due_tests (kept-at fired 0 t h cut) ∙ answer-rest fired t h
