-- The unit's answer to a test, in two forms.
use Rattle.std.proofs.Common.{◌≡◌, ℕ, ◌+◌, not, take, slice_set, slice_index_or, is_some, Bool, true, false, ◌&&◌, ◌||◌, if◌then◌else◌, List, [], ◌∷◌, Option, Some, None, refl, sym, ap, ◌∙◌, add-one}
use Rattle.std.proofs.lemmas.Bool.{false≢true}
use Rattle.mb_pfu.specs.declared.parts.Watch.{Watch}
use Rattle.mb_pfu.specs.Tree.{Activity, Running, Tree, Group, Leaf, Waits, no_more, member, is_in, is_among, at_slot, at_member, answer_at}
use Rattle.mb_pfu.specs.Rows.{any_due, answered, or_else, due, first_due, no_watch, watch_due, is_cut}
use Rattle.tk_paths.proofs.SlotFacts.{Judged, Cut, Kept, behind_one, judged, judged_tree, first_cond, next_cond, next_cond_among, if_some, test_answered, test_answered_among}

due-cond : (watches : List Watch) → any_due watches ≡ is_some (first_cond watches)
due-cond [] = refl
due-cond (l ∷ watches) = by l.due (due-cond watches)
  where
    by : (d : Bool) → any_due watches ≡ is_some (first_cond watches) → d || any_due watches ≡ is_some (if d then Some l.entry.cond else first_cond watches)
    by true e = refl
    by false e = e

or-some : (a b : Option ℕ) → is_some a || is_some b ≡ is_some (or_else a b)
or-some None b = refl
or-some (Some x) b = refl

mutual
  pub due-next : (k : ℕ) (t : Tree) → is_in due k t ≡ is_some (next_cond t)
  due-next k (Leaf watches activity) = due-cond watches
  due-next k (Waits watches at lo group) = ap (λ b. b || is_among due lo group) (due-cond watches) ∙ ap (λ b. is_some (first_cond watches) || b) (due-next-among lo group) ∙ or-some (first_cond watches) (next_cond_among group)

  due-next-among : (k : ℕ) (ts : Group) → is_among due k ts ≡ is_some (next_cond_among ts)
  due-next-among k no_more = refl
  due-next-among k (member t ts) = ap (λ b. b || is_among due (k + 1) ts) (due-next k t) ∙ ap (λ b. is_some (next_cond t) || b) (due-next-among (k + 1) ts) ∙ or-some (next_cond t) (next_cond_among ts)

abbrev answered_at : Bool → ℕ → List Watch → Judged
answered_at fired n watches =
    if fired && not (slice_index_or watches n no_watch).entry.weak then Cut (take n watches) (slice_index_or watches n no_watch).entry.handler
    else Kept (slice_set watches n (answered fired (slice_index_or watches n no_watch)))

behind-if : (l : Watch) (b : Bool) (x y : Judged) → behind_one l (if b then x else y) ≡ (if b then behind_one l x else behind_one l y)
behind-if l true x y = refl
behind-if l false x y = refl

judged-alike : (fired : Bool) (watches : List Watch) → any_due watches ≡ true → judged fired watches ≡ answered_at fired (first_due watches) watches
judged-alike fired [] h = absurd (false≢true h)
judged-alike fired (l ∷ watches) h = by l.due h (λ e. judged-alike fired watches e)
  where
    by : (d : Bool) → d || any_due watches ≡ true → (any_due watches ≡ true → judged fired watches ≡ answered_at fired (first_due watches) watches) →
        (if d then (if fired && not l.entry.weak then Cut [] l.entry.handler else Kept (answered fired l ∷ watches)) else behind_one l (judged fired watches)) ≡ answered_at fired (if d then 0 else first_due watches + 1) (l ∷ watches)
    by true e ih = refl
    by false e ih =
        let n = first_due watches in
        let w = slice_index_or watches n no_watch in
        ap (behind_one l) (ih e) ∙ behind-if l (fired && not w.entry.weak) (Cut (take n watches) w.entry.handler) (Kept (slice_set watches n (answered fired w))) ∙ ap (λ m. answered_at fired m (l ∷ watches)) (sym (add-one n))

leaf-alike : (fired : Bool) (watches : List Watch) (activity : Activity) (b : Bool) (n : ℕ) (w : Watch) →
    (if b then Leaf (take n watches) (Running w.entry.handler) else Leaf (slice_set watches n (answered fired w)) activity)
    ≡ judged_tree (λ x. Leaf x activity) (if b then Cut (take n watches) w.entry.handler else Kept (slice_set watches n (answered fired w)))
leaf-alike fired watches activity true n w = refl
leaf-alike fired watches activity false n w = refl

waits-alike : (fired : Bool) (watches : List Watch) (at lo : ℕ) (group : Group) (b : Bool) (n : ℕ) (w : Watch) →
    (if b then Leaf (take n watches) (Running w.entry.handler) else Waits (slice_set watches n (answered fired w)) at lo group)
    ≡ judged_tree (λ x. Waits x at lo group) (if b then Cut (take n watches) w.entry.handler else Kept (slice_set watches n (answered fired w)))
waits-alike fired watches at lo group true n w = refl
waits-alike fired watches at lo group false n w = refl

if-some-due : {X : Type 0} (o : Option ℕ) (b : Bool) (x y : X) → b ≡ is_some o → (if b then x else y) ≡ if_some o x y
if-some-due {X} o b x y e = ap (λ c. if c then x else y) e ∙ by o
  where
    by : (p : Option ℕ) → (if is_some p then x else y) ≡ if_some p x y
    by None = refl
    by (Some c) = refl

mutual
  pub alike : (fired : Bool) (k : ℕ) (t : Tree) → is_in due k t ≡ true → at_slot due (answer_at fired) (λ u. u) k t ≡ test_answered fired t
  alike fired k (Leaf watches activity) h =
      ap (λ b. if b then answer_at fired (Leaf watches activity) else Leaf watches activity) h
      ∙ leaf-alike fired watches activity (is_cut fired watches) (first_due watches) (watch_due watches)
      ∙ ap (judged_tree (λ x. Leaf x activity)) (sym (judged-alike fired watches h))
  alike fired k (Waits watches at lo group) h = by (any_due watches) refl h (λ e. alike-among fired lo group e)
    where
      by : (d : Bool) → any_due watches ≡ d → d || is_among due lo group ≡ true → (is_among due lo group ≡ true → at_member due (answer_at fired) (λ u. u) lo group ≡ test_answered_among fired group) →
          (if d then answer_at fired (Waits watches at lo group) else if is_among due lo group then Waits watches at lo (at_member due (answer_at fired) (λ u. u) lo group) else Waits watches at lo group)
          ≡ if_some (first_cond watches) (judged_tree (λ w. Waits w at lo group) (judged fired watches)) (Waits watches at lo (test_answered_among fired group))
      by true d e ih =
          waits-alike fired watches at lo group (is_cut fired watches) (first_due watches) (watch_due watches)
          ∙ ap (judged_tree (λ x. Waits x at lo group)) (sym (judged-alike fired watches d))
          ∙ if-some-due (first_cond watches) true (judged_tree (λ w. Waits w at lo group) (judged fired watches)) (Waits watches at lo (test_answered_among fired group)) (sym d ∙ due-cond watches)
      by false d e ih =
          ap (λ b. if b then Waits watches at lo (at_member due (answer_at fired) (λ u. u) lo group) else Waits watches at lo group) e
          ∙ ap (Waits watches at lo) (ih e)
          ∙ if-some-due (first_cond watches) false (judged_tree (λ w. Waits w at lo group) (judged fired watches)) (Waits watches at lo (test_answered_among fired group)) (sym d ∙ due-cond watches)

  alike-among : (fired : Bool) (k : ℕ) (ts : Group) → is_among due k ts ≡ true → at_member due (answer_at fired) (λ u. u) k ts ≡ test_answered_among fired ts
  alike-among fired k no_more h = refl
  alike-among fired k (member t ts) h = by (is_in due k t) refl h (λ e. alike fired k t e) (λ e. alike-among fired (k + 1) ts e)
    where
      by : (d : Bool) → is_in due k t ≡ d → d || is_among due (k + 1) ts ≡ true → (is_in due k t ≡ true → at_slot due (answer_at fired) (λ u. u) k t ≡ test_answered fired t) →
          (is_among due (k + 1) ts ≡ true → at_member due (answer_at fired) (λ u. u) (k + 1) ts ≡ test_answered_among fired ts) →
          (if d then member (at_slot due (answer_at fired) (λ u. u) k t) ts else member t (at_member due (answer_at fired) (λ u. u) (k + 1) ts))
          ≡ if_some (next_cond t) (member (test_answered fired t) ts) (member t (test_answered_among fired ts))
      by true d e here later = ap (λ u. member u ts) (here d) ∙ if-some-due (next_cond t) true (member (test_answered fired t) ts) (member t (test_answered_among fired ts)) (sym d ∙ due-next k t)
      by false d e here later = ap (member t) (later e) ∙ if-some-due (next_cond t) false (member (test_answered fired t) ts) (member t (test_answered_among fired ts)) (sym d ∙ due-next k t)
