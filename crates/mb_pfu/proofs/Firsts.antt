-- Where no number stands twice, the first slot that is selected is the slot of its number.
use Rattle.std.proofs.Common.{◌≡◌, ℕ, ◌+◌, ◌<◌, ◌≤◌, ◌==◌, Bool, true, false, if◌then◌else◌, List, Option, Some, None, refl, sym, ap, ◌∙◌, arith, is_some, IfSome, IsTrue, eq-eqb, subst, length}
use Rattle.std.proofs.lemmas.Bool.Decides.{nat_tests}
use Rattle.mb_pfu.specs.declared.parts.Slot.{Slot}
use Rattle.mb_pfu.specs.declared.parts.Watch.{Watch}
use Rattle.mb_pfu.specs.declared.parts.Slot.TheVariants.{Waiting, Free}
use Rattle.mb_pfu.specs.Rows.{Report, Selector, numbered, ready, is_ready, due, first_due, reported_test}
use Rattle.mb_pfu.specs.Tree.{Tree, Group, Leaf, Waits, no_more, member, size, slot_of_activity, report, report_among, is_in, is_among, at_slot, at_member, tally, tally_group, one, IsSound, slot_of, watches_of, reported_state, reported_watches, reported_number, next_job, next_test}
use Rattle.mb_pfu.proofs.Trees.{is_in-report, is_among-report}
use Rattle.mb_pfu.proofs.Dues.{due-within}
use Rattle.mb_pfu.proofs.Cases.{split, see}

one-same : (k q : ℕ) → k ≡ q → one (k == q) ≡ 1
one-same k q e = grind (arith, nat_tests)

one-other : (k q n : ℕ) → one (k == q) + n ≤ 1 → 1 ≤ n → (k == q) ≡ false
one-other k q n h low = grind (arith, nat_tests)

-- a slot that is reported is counted
mutual
  pub report-tally : (p : Selector) (k : ℕ) (t : Tree) (x : Report) → report p k t ≡ Some x → 1 ≤ tally x.0 k t
  report-tally p k (Leaf watches activity) x e =
      split (p k (slot_of_activity activity) watches)
      (λ b. let e' : Some (k, slot_of_activity activity, watches) ≡ Some x = rw b at e in let same : k ≡ x.0 = cc in omega (arith, one-same k x.0 same))
      (λ b. let e' : None ≡ Some x = rw b at e in cc)
  report-tally p k (Waits watches at lo group) x e =
      split (p k (Waiting at lo (size group)) watches)
      (λ b. let e' : Some (k, Waiting at lo (size group), watches) ≡ Some x = rw b at e in let same : k ≡ x.0 = cc in omega (arith, one-same k x.0 same))
      (λ b. let e' : report_among p lo group ≡ Some x = rw b at e in omega (arith, report-tally_among p lo group x e'))

  pub report-tally_among : (p : Selector) (k : ℕ) (ts : Group) (x : Report) → report_among p k ts ≡ Some x → 1 ≤ tally_group x.0 k ts
  report-tally_among p k no_more x e = cc
  report-tally_among p k (member t ts) x e =
      see (report p k t)
      (λ none. let e' : report_among p (k + 1) ts ≡ Some x = rw none at e in omega (arith, report-tally_among p (k + 1) ts x e'))
      (λ y some. let e' : Some y ≡ Some x = rw some at e in omega (arith, report-tally p k t x (some ∙ e')))

one-none : (b : Bool) → one b ≡ 0 → b ≡ false
one-none true h = absurd (omega arith)
one-none false h = refl

mutual
  pub uncounted : (q k : ℕ) (t : Tree) → tally q k t ≡ 0 → report (numbered q) k t ≡ None
  uncounted q k (Leaf watches activity) h = let e : (k == q) ≡ false = one-none (k == q) h in rw e refl
  uncounted q k (Waits watches at lo group) h =
      let e : (k == q) ≡ false = one-none (k == q) (omega arith) in
      rw e (uncounted-among q lo group (omega arith))

  uncounted-among : (q k : ℕ) (ts : Group) → tally_group q k ts ≡ 0 → report_among (numbered q) k ts ≡ None
  uncounted-among q k no_more h = refl
  uncounted-among q k (member t ts) h = rw (uncounted q k t (omega arith)) (uncounted-among q (k + 1) ts (omega arith))

report-here : (k : ℕ) (s : Slot) (watches : List Watch) (x : Report) (r : Option Report) → Some (k, s, watches) ≡ Some x → (if k == x.0 then Some (k, s, watches) else r) ≡ Some x
report-here k s watches x r e = let same : k ≡ x.0 = cc in rw (eq-eqb k x.0 same) e

mutual
  pub report-numbered : (p : Selector) (k : ℕ) (t : Tree) (x : Report) → ((q : ℕ) → tally q k t ≤ 1) → report p k t ≡ Some x → report (numbered x.0) k t ≡ Some x
  report-numbered p k (Leaf watches activity) x once e =
      split (p k (slot_of_activity activity) watches)
      (λ b. report-here k (slot_of_activity activity) watches x None (rw b at e))
      (λ b. let e' : None ≡ Some x = rw b at e in cc)
  report-numbered p k (Waits watches at lo group) x once e =
      split (p k (Waiting at lo (size group)) watches)
      (λ b. report-here k (Waiting at lo (size group)) watches x (report_among (numbered x.0) lo group) (rw b at e))
      (λ b.
      let e' : report_among p lo group ≡ Some x = rw b at e in
      let other : (k == x.0) ≡ false = one-other k x.0 (tally_group x.0 lo group) (once x.0) (report-tally_among p lo group x e') in
      rw other (report-numbered_among p lo group x (λ q. omega (arith, once q)) e'))

  report-numbered_among : (p : Selector) (k : ℕ) (ts : Group) (x : Report) → ((q : ℕ) → tally_group q k ts ≤ 1) → report_among p k ts ≡ Some x → report_among (numbered x.0) k ts ≡ Some x
  report-numbered_among p k no_more x once e = cc
  report-numbered_among p k (member t ts) x once e =
      see (report p k t)
      (λ none.
      let e' : report_among p (k + 1) ts ≡ Some x = rw none at e in
      let gone : report (numbered x.0) k t ≡ None = uncounted x.0 k t (omega (arith, once x.0, report-tally_among p (k + 1) ts x e')) in
      rw gone (report-numbered_among p (k + 1) ts x (λ q. omega (arith, once q)) e'))
      (λ y some.
      let e' : Some y ≡ Some x = rw some at e in
      rw (report-numbered p k t x (λ q. omega (arith, once q)) (some ∙ e')) refl)

-- and a change at the first that is selected is one at its number
mutual
  pub at-numbered : (p : Selector) (f g : Tree → Tree) (k : ℕ) (t : Tree) (x : Report) → ((q : ℕ) → tally q k t ≤ 1) → report p k t ≡ Some x → at_slot p f g k t ≡ at_slot (numbered x.0) f g k t
  at-numbered p f g k (Leaf watches activity) x once e =
      split (p k (slot_of_activity activity) watches)
      (λ b. let e' : Some (k, slot_of_activity activity, watches) ≡ Some x = rw b at e in let same : k ≡ x.0 = cc in rw (b, eq-eqb k x.0 same) refl)
      (λ b. let e' : None ≡ Some x = rw b at e in cc)
  at-numbered p f g k (Waits watches at lo group) x once e =
      split (p k (Waiting at lo (size group)) watches)
      (λ b. let e' : Some (k, Waiting at lo (size group), watches) ≡ Some x = rw b at e in let same : k ≡ x.0 = cc in rw (b, eq-eqb k x.0 same) refl)
      (λ b.
      let e' : report_among p lo group ≡ Some x = rw b at e in
      let other : (k == x.0) ≡ false = one-other k x.0 (tally_group x.0 lo group) (once x.0) (report-tally_among p lo group x e') in
      let once' : (q : ℕ) → tally_group q lo group ≤ 1 = λ q. omega (arith, once q) in
      let has : is_among p lo group ≡ true = is_among-report p lo group ∙ ap is_some e' in
      let has' : is_among (numbered x.0) lo group ≡ true = is_among-report (numbered x.0) lo group ∙ ap is_some (report-numbered_among p lo group x once' e') in
      rw (b, other, has, has') (ap (λ ts. g (Waits watches at lo ts)) (at-numbered_among p f g lo group x once' e')))

  at-numbered_among : (p : Selector) (f g : Tree → Tree) (k : ℕ) (ts : Group) (x : Report) → ((q : ℕ) → tally_group q k ts ≤ 1) → report_among p k ts ≡ Some x → at_member p f g k ts ≡ at_member (numbered x.0) f g k ts
  at-numbered_among p f g k no_more x once e = refl
  at-numbered_among p f g k (member t ts) x once e =
      see (report p k t)
      (λ none.
      let e' : report_among p (k + 1) ts ≡ Some x = rw none at e in
      let gone : report (numbered x.0) k t ≡ None = uncounted x.0 k t (omega (arith, once x.0, report-tally_among p (k + 1) ts x e')) in
      let out : is_in p k t ≡ false = is_in-report p k t ∙ ap is_some none in
      let out' : is_in (numbered x.0) k t ≡ false = is_in-report (numbered x.0) k t ∙ ap is_some gone in
      rw (out, out') (ap (member t) (at-numbered_among p f g (k + 1) ts x (λ q. omega (arith, once q)) e')))
      (λ y some.
      let e' : Some y ≡ Some x = rw some at e in
      let once' : (q : ℕ) → tally q k t ≤ 1 = λ q. omega (arith, once q) in
      let has : is_in p k t ≡ true = is_in-report p k t ∙ ap is_some some in
      let has' : is_in (numbered x.0) k t ≡ true = is_in-report (numbered x.0) k t ∙ ap is_some (report-numbered p k t x once' (some ∙ e')) in
      rw (has, has') (ap (λ u. member u ts) (at-numbered p f g k t x once' (some ∙ e'))))

selected : (p : Selector) (y x : Report) → Some y ≡ Some x → p y.0 y.1 y.2 ≡ true → p x.0 x.1 x.2 ≡ true
selected p y x e h =
    let same : y ≡ x = cc in
    let P : Report → Type 0 = λ z. p z.0 z.1 z.2 ≡ true in
    subst P same h

-- what is reported is selected
mutual
  report-selected : (p : Selector) (k : ℕ) (t : Tree) (x : Report) → report p k t ≡ Some x → p x.0 x.1 x.2 ≡ true
  report-selected p k (Leaf watches activity) x e =
      split (p k (slot_of_activity activity) watches)
      (λ b. let e' : Some (k, slot_of_activity activity, watches) ≡ Some x = rw b at e in selected p (k, slot_of_activity activity, watches) x e' b)
      (λ b. let e' : None ≡ Some x = rw b at e in cc)
  report-selected p k (Waits watches at lo group) x e =
      split (p k (Waiting at lo (size group)) watches)
      (λ b. let e' : Some (k, Waiting at lo (size group), watches) ≡ Some x = rw b at e in selected p (k, Waiting at lo (size group), watches) x e' b)
      (λ b. report-selected_among p lo group x (rw b at e))

  report-selected_among : (p : Selector) (k : ℕ) (ts : Group) (x : Report) → report_among p k ts ≡ Some x → p x.0 x.1 x.2 ≡ true
  report-selected_among p k no_more x e = cc
  report-selected_among p k (member t ts) x e =
      see (report p k t)
      (λ none. report-selected_among p (k + 1) ts x (rw none at e))
      (λ y some. let e' : Some y ≡ Some x = rw some at e in report-selected p k t x (some ∙ e'))

job-by : (t : Tree) → IsSound t → (x : Option Report) → report ready 0 t ≡ x → IfSome (reported_number x) (λ s. IsTrue (is_ready (slot_of s t)))
job-by t sound None e = tt
job-by t sound (Some x) e =
    let at : report (numbered x.0) 0 t ≡ Some x = report-numbered ready 0 t x sound.once e in
    ap (λ o. is_ready (reported_state o)) at ∙ report-selected ready 0 t x e

-- the next job is ready
pub job-ready : (t : Tree) (o : Option ℕ) → IsSound t → o ≡ next_job t → IfSome o (λ s. IsTrue (is_ready (slot_of s t)))
job-ready t o sound e = let P : Option ℕ → Type 0 = λ a. IfSome a (λ s. IsTrue (is_ready (slot_of s t))) in subst P (sym e) (job-by t sound (report ready 0 t) refl)

test-by : (t : Tree) → IsSound t → (x : Option Report) → report due 0 t ≡ x → IfSome (reported_test x) (λ p. p.1 < length (watches_of p.0 t))
test-by t sound None e = tt
test-by t sound (Some x) e =
    let at : report (numbered x.0) 0 t ≡ Some x = report-numbered due 0 t x sound.once e in
    let P : List Watch → Type 0 = λ watches. first_due x.2 < length watches in
    subst P (sym (ap reported_watches at)) (due-within x.2 (report-selected due 0 t x e))

-- the next test's entry is there
pub test-there : (t : Tree) (o : Option (ℕ × ℕ)) → IsSound t → o ≡ next_test t → IfSome o (λ p. p.1 < length (watches_of p.0 t))
test-there t o sound e = let P : Option (ℕ × ℕ) → Type 0 = λ a. IfSome a (λ p. p.1 < length (watches_of p.0 t)) in subst P (sym e) (test-by t sound (report due 0 t) refl)

-- a slot that isn't counted is free
pub uncounted-free : (s : ℕ) (t : Tree) → tally s 0 t ≡ 0 → slot_of s t ≡ Free
uncounted-free s t h = ap reported_state (uncounted s 0 t h)
