-- The tests that are due are a list, of which the next test is the first and an answer takes off the first.
use Rattle.std.proofs.Common.{◌≡◌, ℕ, ◌+◌, Bool, true, false, if◌then◌else◌, List, [], ◌∷◌, Option, Some, None, refl, sym, ap, ◌∙◌, arith, slice_set, add-one, map}
use Rattle.mb_pfu.specs.declared.parts.Slot.{Slot}
use Rattle.mb_pfu.specs.declared.parts.Slot.TheVariants.{Waiting}
use Rattle.mb_pfu.specs.declared.parts.Watch.{Watch}
use Rattle.mb_pfu.specs.Rows.{Report, due, any_due, first_due, reported_test, or_else, with_answer, watch_due, answered, renewed}
use Rattle.mb_pfu.specs.Tree.{Tree, Group, Leaf, Waits, no_more, member, size, slot_of_activity, report, report_among, next_test, is_in, is_among, at_slot, at_member, watches_at, each_slot, each_member, tests_begun}
use Rattle.mb_pfu.specs.DueList.{tests_from, tests_then, group_tests_then, due_tests, first_of, rest_of, entries_from, entries_then, group_entries_then, all_entries}
use Rattle.mb_pfu.proofs.Cases.{split, or-left-false, or-right-false, or_else-assoc, or_else-none}

first-from : (k i : ℕ) (watches : List Watch) (rest : List (ℕ × ℕ)) → first_of (tests_from k i watches rest) ≡ (if any_due watches then Some (k, i + first_due watches) else first_of rest)
first-from k i [] rest = refl
first-from k i (l ∷ watches) rest =
    split l.due
    (λ b. let n : i ≡ i + 0 = omega arith in rw b (ap (λ m. Some (k, m)) n))
    (λ b. let n : i + 1 + first_due watches ≡ i + (first_due watches + 1) = omega arith in rw b (first-from k (i + 1) watches rest ∙ ap (λ m. if any_due watches then Some (k, m) else first_of rest) n))

test-or : (a b : Option Report) → reported_test (or_else a b) ≡ or_else (reported_test a) (reported_test b)
test-or None b = refl
test-or (Some a) b = refl

report-test : (b : Bool) (k n : ℕ) (s : Slot) (watches : List Watch) (r : Option Report) (o : Option (ℕ × ℕ)) → n ≡ first_due watches →
    (if b then Some (k, n) else or_else (reported_test r) o) ≡ or_else (reported_test (if b then Some (k, s, watches) else r)) o
report-test true k n s watches r o e = ap (λ m. Some (k, m)) e
report-test false k n s watches r o e = refl

mutual
  first-then : (k : ℕ) (t : Tree) (rest : List (ℕ × ℕ)) → first_of (tests_then k t rest) ≡ or_else (reported_test (report due k t)) (first_of rest)
  first-then k (Leaf watches activity) rest = first-from k 0 watches rest ∙ report-test (any_due watches) k (0 + first_due watches) (slot_of_activity activity) watches None (first_of rest) (omega arith)
  first-then k (Waits watches at lo group) rest =
      first-from k 0 watches (group_tests_then lo group rest)
      ∙ ap (λ o. if any_due watches then Some (k, 0 + first_due watches) else o) (first-group lo group rest)
      ∙ report-test (any_due watches) k (0 + first_due watches) (Waiting at lo (size group)) watches (report_among due lo group) (first_of rest) (omega arith)

  first-group : (k : ℕ) (ts : Group) (rest : List (ℕ × ℕ)) → first_of (group_tests_then k ts rest) ≡ or_else (reported_test (report_among due k ts)) (first_of rest)
  first-group k no_more rest = refl
  first-group k (member t ts) rest =
      first-then k t (group_tests_then (k + 1) ts rest) ∙ ap (or_else (reported_test (report due k t))) (first-group (k + 1) ts rest)
      ∙ sym (or_else-assoc (reported_test (report due k t)) (reported_test (report_among due (k + 1) ts)) (first_of rest)) ∙ ap (λ o. or_else o (first_of rest)) (sym (test-or (report due k t) (report_among due (k + 1) ts)))

-- the next test is the first of the list
pub next-first : (t : Tree) → next_test t ≡ first_of (due_tests t)
next-first t = sym (first-then 0 t [] ∙ or_else-none (reported_test (report due 0 t)))

-- an answer takes off the first
set-from : (k i : ℕ) (watches : List Watch) (a : Watch) (rest : List (ℕ × ℕ)) → a.due ≡ false → any_due watches ≡ true → tests_from k i (slice_set watches (first_due watches) a) rest ≡ rest_of (tests_from k i watches rest)
set-from k i [] a rest off h = cc
set-from k i (l ∷ watches) a rest off h =
    split l.due
    (λ b. rw (b, off) refl)
    (λ b.
    let h' : any_due watches ≡ true = rw b at h in
    rw (b, add-one (first_due watches)) (set-from k (i + 1) watches a rest off h'))

pub none-from : (k i : ℕ) (watches : List Watch) (rest : List (ℕ × ℕ)) → any_due watches ≡ false → tests_from k i watches rest ≡ rest
none-from k i [] rest h = refl
none-from k i (l ∷ watches) rest h = rw (or-left-false (l.due) (any_due watches) h) (none-from k (i + 1) watches rest (or-right-false l.due (any_due watches) h))

mutual
  pub none-then : (k : ℕ) (t : Tree) (rest : List (ℕ × ℕ)) → is_in due k t ≡ false → tests_then k t rest ≡ rest
  none-then k (Leaf watches activity) rest h = none-from k 0 watches rest h
  none-then k (Waits watches at lo group) rest h =
      none-from k 0 watches (group_tests_then lo group rest) (or-left-false (any_due watches) (is_among due lo group) h) ∙ none-group lo group rest (or-right-false (any_due watches) (is_among due lo group) h)

  pub none-group : (k : ℕ) (ts : Group) (rest : List (ℕ × ℕ)) → is_among due k ts ≡ false → group_tests_then k ts rest ≡ rest
  none-group k no_more rest h = refl
  none-group k (member t ts) rest h =
      none-then k t (group_tests_then (k + 1) ts rest) (or-left-false (is_in due k t) (is_among due (k + 1) ts) h) ∙ none-group (k + 1) ts rest (or-right-false (is_in due k t) (is_among due (k + 1) ts) h)

mutual
  answer-then : (fired : Bool) (k : ℕ) (t : Tree) (rest : List (ℕ × ℕ)) → is_in due k t ≡ true → tests_then k (at_slot due (watches_at (with_answer fired)) (λ u. u) k t) rest ≡ rest_of (tests_then k t rest)
  answer-then fired k (Leaf watches activity) rest h = rw h (set-from k 0 watches (answered fired (watch_due watches)) rest refl h)
  answer-then fired k (Waits watches at lo group) rest h =
      split (any_due watches)
      (λ b. rw b (set-from k 0 watches (answered fired (watch_due watches)) (group_tests_then lo group rest) refl b))
      (λ b.
      let among : is_among due lo group ≡ true = rw b at h in
      rw (b, among)
      (none-from k 0 watches (group_tests_then lo (at_member due (watches_at (with_answer fired)) (λ u. u) lo group) rest) b
      ∙ answer-group fired lo group rest among ∙ ap rest_of (sym (none-from k 0 watches (group_tests_then lo group rest) b))))

  answer-group : (fired : Bool) (k : ℕ) (ts : Group) (rest : List (ℕ × ℕ)) → is_among due k ts ≡ true →
      group_tests_then k (at_member due (watches_at (with_answer fired)) (λ u. u) k ts) rest ≡ rest_of (group_tests_then k ts rest)
  answer-group fired k no_more rest h = cc
  answer-group fired k (member t ts) rest h =
      split (is_in due k t)
      (λ b. rw b (answer-then fired k t (group_tests_then (k + 1) ts rest) b))
      (λ b.
      let more : is_among due (k + 1) ts ≡ true = rw b at h in
      rw b (none-then k t (group_tests_then (k + 1) (at_member due (watches_at (with_answer fired)) (λ u. u) (k + 1) ts) rest) b
      ∙ answer-group fired (k + 1) ts rest more ∙ ap rest_of (sym (none-then k t (group_tests_then (k + 1) ts rest) b))))

-- where the answer drops nothing
pub answer-rest : (fired : Bool) (t : Tree) → is_in due 0 t ≡ true → due_tests (at_slot due (watches_at (with_answer fired)) (λ u. u) 0 t) ≡ rest_of (due_tests t)
answer-rest fired t h = answer-then fired 0 t [] h

-- where the tests begin all entries are due
begun-from : (k i : ℕ) (watches : List Watch) (rest : List (ℕ × ℕ)) → tests_from k i (map renewed watches) rest ≡ entries_from k i watches rest
begun-from k i [] rest = refl
begun-from k i (l ∷ watches) rest = ap (λ tests. (k, i) ∷ tests) (begun-from k (i + 1) watches rest)

mutual
  begun-then : (k : ℕ) (t : Tree) (rest : List (ℕ × ℕ)) → tests_then k (each_slot (map renewed) (λ x. x) t) rest ≡ entries_then k t rest
  begun-then k (Leaf watches activity) rest = begun-from k 0 watches rest
  begun-then k (Waits watches at lo group) rest =
      begun-from k 0 watches (group_tests_then lo (each_member (map renewed) (λ x. x) group) rest) ∙ ap (entries_from k 0 watches) (begun-group lo group rest)

  begun-group : (k : ℕ) (ts : Group) (rest : List (ℕ × ℕ)) → group_tests_then k (each_member (map renewed) (λ x. x) ts) rest ≡ group_entries_then k ts rest
  begun-group k no_more rest = refl
  begun-group k (member t ts) rest =
      begun-then k t (group_tests_then (k + 1) (each_member (map renewed) (λ x. x) ts) rest) ∙ ap (entries_then k t) (begun-group (k + 1) ts rest)

pub begun-all : (t : Tree) → due_tests (tests_begun t) ≡ all_entries t
begun-all t = begun-then 0 t []
