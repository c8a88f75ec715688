-- Trees in which some slots have come to rest, and what it does to them that one more does.
use Rattle.std.proofs.Common.{◌≡◌, ◌⊎◌, inl, inr, ⊎_elim, ℕ, ◌+◌, ◌==◌, Bool, true, false, ◌||◌, ◌&&◌, if◌then◌else◌, List, [], ◌∷◌, ◌++◌, Option, Some, None, refl, sym, ap, ◌∙◌, subst, is_some, arith, add-one, append_assoc}
use Rattle.std.proofs.lemmas.Bool.Decides.{nat_tests}
use Rattle.mb_pfu.specs.declared.parts.Slot.{Slot}
use Rattle.mb_pfu.specs.declared.parts.Watch.{Watch}
use Rattle.mb_pfu.specs.Rows.{Report, numbered, is_ready, relief, with_last, or_else}
use Rattle.mb_pfu.specs.Tree.{Tree, Group, Leaf, Waits, no_more, member, Activity, Running, Pausing, Finished, size, slot_of_activity, settle, relieved_tree, has_ready, any_ready, has_ended, all_ended, is_in, is_among, at_slot, at_member, report, report_among, reported_state, reported_watches, watches_at, watches_of, slot_of, entered}
use Rattle.mb_pfu.proofs.Cases.{split, see, none-there, or-left-false, or-right-false, or_else-some}
use Rattle.mb_pfu.proofs.Climbs.{size-at_member}
use Rattle.mb_pfu.proofs.Laws.{at-at}
use Rattle.mb_pfu.proofs.Trees.{is_in-report, is_among-report, some-ready}
use Rattle.pt_image.specs.declared.Parts.{Parts}
use Rattle.mb_isa.specs.Free.{IsLoose, AreAtRest, HasLoose}
use Rattle.tk_cert.specs.declared.cert.State.{State}
use Rattle.tk_walk.specs.Building.{state_at, is_loose, any_loose, all_entered, put, IsFork, IsStanding, AreStanding, resting, resting_in}

-- what is reported of a slot says that it is ready
abbrev pub IsReadyIn : Option Report → Type 0
IsReadyIn o = is_ready (reported_state o) ≡ true

pub same-of : (k s : ℕ) → (k == s) ≡ true → k ≡ s
same-of k s h = grind (arith, nat_tests)

pub any-more : (states : List State) (k n : ℕ) → any_loose states k (n + 1) ≡ (is_loose (state_at states k) || any_loose states (k + 1) n)
any-more states k n = ap (any_loose states k) (add-one n)

-- a slot that is reported here or not at all isn't ready where this one isn't
pub unready : (b : Bool) (k : ℕ) (state : Slot) (watches : List Watch) → is_ready state ≡ false → IsReadyIn (if b then Some (k, state, watches) else None) → ⊥
unready true k state watches e h = let h' : false ≡ true = sym e ∙ h in cc
unready false k state watches e h = cc

-- where a report comes from
pub from-first : (a b : Option Report) → is_some a ≡ true → IsReadyIn (or_else a b) → IsReadyIn a
from-first a b some h = ap (λ o. is_ready (reported_state o)) (sym (or_else-some a b some)) ∙ h

pub from-rest : (a b : Option Report) → a ≡ None → IsReadyIn (or_else a b) → IsReadyIn b
from-rest a b none h = rw none at h

module _ (image : Parts) (states : List State) where
  -- a group of which one will go on by itself has not ended
  ended-by : (b c : Bool) (x y : Bool) → (b && c) ≡ true → (x || y) ≡ true → (b ≡ true → x ≡ false) → (c ≡ true → y ≡ true → ⊥) → ⊥
  ended-by true true true y e a first more = let f : true ≡ false = first refl in cc
  ended-by true true false y e a first more = more refl a
  ended-by true false x y e a first more = cc
  ended-by false c x y e a first more = cc

  ended-here : (k : ℕ) (t : Tree) → IsStanding image states k t → has_ended t ≡ true → is_loose (state_at states k) ≡ false
  ended-here k (Leaf watches (Running place)) h e = cc
  ended-here k (Leaf watches (Pausing place)) h e = cc
  ended-here k (Leaf watches Finished) h e = ap is_loose h.1
  ended-here k (Waits watches at lo group) h e = cc

  not-all-ended : (k : ℕ) (ts : Group) → AreStanding image states k ts → all_ended ts ≡ true → any_loose states k (size ts) ≡ true → ⊥
  not-all-ended k no_more h e a = cc
  not-all-ended k (member t ts) h e a =
      ended-by (has_ended t) (all_ended ts) (is_loose (state_at states k)) (any_loose states (k + 1) (size ts)) e (sym (any-more states k (size ts)) ∙ a)
      (ended-here k t h.0) (λ e' a'. not-all-ended (k + 1) ts h.1 e' a')

  still-by : (watches : List Watch) (at lo : ℕ) (group : Group) (runs ended : Bool) (r : Option (List Watch × ℕ)) → r ≡ None → (ended ≡ true → ⊥) →
      (if runs then Waits watches at lo group else if ended then Leaf watches (Running (at + 1)) else relieved_tree (Waits watches at lo group) r) ≡ Waits watches at lo group
  still-by watches at lo group true ended r none out = refl
  still-by watches at lo group false true r none out = absurd (out refl)
  still-by watches at lo group false false r none out = ap (relieved_tree (Waits watches at lo group)) none

  -- nothing settles
  pub still : (k : ℕ) (watches : List Watch) (at lo : ℕ) (group : Group) → IsStanding image states k (Waits watches at lo group) → settle (Waits watches at lo group) ≡ Waits watches at lo group
  still k watches at lo group h = still-by watches at lo group (any_ready group) (all_ended group) (relief watches) h.3 (λ e. not-all-ended lo group h.4 e h.5)

  -- the slot in whose place something is put is ready
  module _ (s : ℕ) (v : Tree) (F g : Tree → Tree) (becomes : (p : ℕ) → F (Leaf [] (Running p)) ≡ v) (stays : (k : ℕ) (watches : List Watch) (at lo : ℕ) (group : Group) → IsStanding image states k (Waits watches at lo group) → g (Waits watches at lo group) ≡ Waits watches at lo group) (rests : IsStanding image states s v) where
    abbrev IsPut : ℕ → Tree → Type 0
    IsPut k t = (at_slot (numbered s) F g k t ≡ put s v k t) × IsStanding image states k (put s v k t)

    put-leaf : (b : Bool) (k p : ℕ) (watches : List Watch) → (b ≡ true → k ≡ s) → watches ≡ [] → IsReadyIn (if b then Some (k, slot_of_activity (Running p), watches) else None) →
        ((if b then F (Leaf watches (Running p)) else Leaf watches (Running p)) ≡ (if b then v else Leaf watches (Running p))) × IsStanding image states k (if b then v else Leaf watches (Running p))
    put-leaf true k p watches here bare r = (ap (λ x. F (Leaf x (Running p))) bare ∙ becomes p, subst (λ n. IsStanding image states n v) (sym (here refl)) rests)
    put-leaf false k p watches here bare r = cc

    mutual
      pub put-at : (k : ℕ) (t : Tree) → IsStanding image states k t → IsReadyIn (report (numbered s) k t) → (at_slot (numbered s) F g k t ≡ put s v k t) × IsStanding image states k (put s v k t)
      put-at k (Leaf watches (Running p)) h r = put-leaf (k == s) k p watches (same-of k s) h r
      put-at k (Leaf watches (Pausing p)) h r = absurd (unready (k == s) k (slot_of_activity (Pausing p)) watches refl r)
      put-at k (Leaf watches Finished) h r = absurd (unready (k == s) k (slot_of_activity Finished) watches refl r)
      put-at k (Waits watches at lo group) h r = split (k == s)
          (λ e. let r' : false ≡ true = rw e at r in cc)
          (λ e.
          let r' : IsReadyIn (report_among (numbered s) lo group) = rw e at r in
          let has : is_among (numbered s) lo group ≡ true = is_among-report (numbered s) lo group ∙ some-ready (report_among (numbered s) lo group) r' in
          let inner = put-in lo group h.4 r' in
          let same = size-at_member (numbered s) (λ u. v) (λ u. u) lo group in
          let standing : IsStanding image states k (Waits watches at lo (at_member (numbered s) (λ u. v) (λ u. u) lo group)) = (
            h.0,
            h.1,
            subst (λ n. IsFork image at lo n) (sym same) h.2,
            h.3,
            inner.1,
            ap (any_loose states lo) same ∙ h.5,
          ) in
          rw (e, has) (ap (λ ts. g (Waits watches at lo ts)) inner.0 ∙ stays k watches at lo (at_member (numbered s) (λ u. v) (λ u. u) lo group) standing, standing))

      put-in : (k : ℕ) (ts : Group) → AreStanding image states k ts → IsReadyIn (report_among (numbered s) k ts) →
          (at_member (numbered s) F g k ts ≡ at_member (numbered s) (λ u. v) (λ u. u) k ts) × AreStanding image states k (at_member (numbered s) (λ u. v) (λ u. u) k ts)
      put-in k no_more h r = cc
      put-in k (member t ts) h r = split (is_in (numbered s) k t)
          (λ e.
          let inner = put-at k t h.0 (from-first (report (numbered s) k t) (report_among (numbered s) (k + 1) ts) (sym (is_in-report (numbered s) k t) ∙ e) r) in
          rw e (ap (λ u. member u ts) inner.0, (inner.1, h.1)))
          (λ e.
          let inner = put-in (k + 1) ts h.1 (from-rest (report (numbered s) k t) (report_among (numbered s) (k + 1) ts) (none-there (report (numbered s) k t) (sym (is_in-report (numbered s) k t) ∙ e)) r) in
          rw e (ap (member t) inner.0, (h.0, inner.1)))

  -- a ready slot is inside no abort
  bare-leaf : (b : Bool) (k p : ℕ) (watches : List Watch) → watches ≡ [] → IsReadyIn (if b then Some (k, slot_of_activity (Running p), watches) else None) → reported_watches (if b then Some (k, slot_of_activity (Running p), watches) else None) ≡ []
  bare-leaf true k p watches bare r = bare
  bare-leaf false k p watches bare r = refl

  mutual
    pub bare-at : (s k : ℕ) (t : Tree) → IsStanding image states k t → IsReadyIn (report (numbered s) k t) → reported_watches (report (numbered s) k t) ≡ []
    bare-at s k (Leaf watches (Running p)) h r = bare-leaf (k == s) k p watches h r
    bare-at s k (Leaf watches (Pausing p)) h r = absurd (unready (k == s) k (slot_of_activity (Pausing p)) watches refl r)
    bare-at s k (Leaf watches Finished) h r = absurd (unready (k == s) k (slot_of_activity Finished) watches refl r)
    bare-at s k (Waits watches at lo group) h r = split (k == s)
        (λ e. let r' : false ≡ true = rw e at r in cc)
        (λ e. let r' : IsReadyIn (report_among (numbered s) lo group) = rw e at r in rw e (bare-in s lo group h.4 r'))

    bare-in : (s k : ℕ) (ts : Group) → AreStanding image states k ts → IsReadyIn (report_among (numbered s) k ts) → reported_watches (report_among (numbered s) k ts) ≡ []
    bare-in s k no_more h r = refl
    bare-in s k (member t ts) h r = see (report (numbered s) k t)
        (λ none. rw none (bare-in s (k + 1) ts h.1 (from-rest (report (numbered s) k t) (report_among (numbered s) (k + 1) ts) none r)))
        (λ y some.
        let there : is_some (report (numbered s) k t) ≡ true = ap is_some some in
        rw (or_else-some (report (numbered s) k t) (report_among (numbered s) (k + 1) ts) there) (bare-at s k t h.0 (from-first (report (numbered s) k t) (report_among (numbered s) (k + 1) ts) there r)))

  -- where no slot is ready all rest as a configuration does
  loose-by : (k n : ℕ) (x y : Bool) → (x || y) ≡ true → x ≡ true ⊎ y ≡ true
  loose-by k n true y h = inl refl
  loose-by k n false y h = inr h

  mutual
    pub rest-loose : (k : ℕ) (t : Tree) → IsStanding image states k t → has_ready t ≡ false → (t ≡ Leaf [] Finished) ⊎ IsLoose image k t
    rest-loose k (Leaf watches (Running place)) h quiet = cc
    rest-loose k (Leaf watches (Pausing place)) h quiet = inr h
    rest-loose k (Leaf watches Finished) h quiet = inl (ap (λ x. Leaf x Finished) h.0)
    rest-loose k (Waits watches at lo group) h quiet = inr (h.0, h.1, h.2, rests-loose lo group h.4 quiet, has-loose lo group h.4 quiet h.5)

    rests-loose : (k : ℕ) (ts : Group) → AreStanding image states k ts → any_ready ts ≡ false → AreAtRest image k ts
    rests-loose k no_more h quiet = tt
    rests-loose k (member t ts) h quiet = (rest-loose k t h.0 (or-left-false (has_ready t) (any_ready ts) quiet), rests-loose (k + 1) ts h.1 (or-right-false (has_ready t) (any_ready ts) quiet))

    loose-here : (k : ℕ) (t : Tree) → IsStanding image states k t → has_ready t ≡ false → is_loose (state_at states k) ≡ true → IsLoose image k t
    loose-here k (Leaf watches (Running place)) h quiet a = cc
    loose-here k (Leaf watches (Pausing place)) h quiet a = h
    loose-here k (Leaf watches Finished) h quiet a = let e : false ≡ true = sym (ap is_loose h.1) ∙ a in cc
    loose-here k (Waits watches at lo group) h quiet a = (h.0, h.1, h.2, rests-loose lo group h.4 quiet, has-loose lo group h.4 quiet h.5)

    has-loose : (k : ℕ) (ts : Group) → AreStanding image states k ts → any_ready ts ≡ false → any_loose states k (size ts) ≡ true → HasLoose image k ts
    has-loose k no_more h quiet a = cc
    has-loose k (member t ts) h quiet a =
        ⊎_elim (λ e. inl (loose-here k t h.0 (or-left-false (has_ready t) (any_ready ts) quiet) e)) (λ e. inr (has-loose (k + 1) ts h.1 (or-right-false (has_ready t) (any_ready ts) quiet) e))
        (loose-by k (size ts) (is_loose (state_at states k)) (any_loose states (k + 1) (size ts)) (sym (any-more states k (size ts)) ∙ a))

-- one slot more has come to rest
resting-leaf : (b : Bool) (k p : ℕ) (watches : List Watch) (v : Tree) → IsReadyIn (if b then Some (k, slot_of_activity (Running p), watches) else None) → resting (if b then v else Leaf watches (Running p)) ≡ 0 + resting v
resting-leaf true k p watches v r = omega arith
resting-leaf false k p watches v r = cc

mutual
  pub resting-put : (s : ℕ) (v : Tree) (k : ℕ) (t : Tree) → IsReadyIn (report (numbered s) k t) → resting (put s v k t) ≡ resting t + resting v
  resting-put s v k (Leaf watches (Running p)) r = resting-leaf (k == s) k p watches v r
  resting-put s v k (Leaf watches (Pausing p)) r = absurd (unready (k == s) k (slot_of_activity (Pausing p)) watches refl r)
  resting-put s v k (Leaf watches Finished) r = absurd (unready (k == s) k (slot_of_activity Finished) watches refl r)
  resting-put s v k (Waits watches at lo group) r = split (k == s)
      (λ e. let r' : false ≡ true = rw e at r in cc)
      (λ e.
      let r' : IsReadyIn (report_among (numbered s) lo group) = rw e at r in
      let has : is_among (numbered s) lo group ≡ true = is_among-report (numbered s) lo group ∙ some-ready (report_among (numbered s) lo group) r' in
      rw (e, has) (omega (arith, resting-put_in s v lo group r')))

  resting-put_in : (s : ℕ) (v : Tree) (k : ℕ) (ts : Group) → IsReadyIn (report_among (numbered s) k ts) → resting_in (at_member (numbered s) (λ u. v) (λ u. u) k ts) ≡ resting_in ts + resting v
  resting-put_in s v k no_more r = cc
  resting-put_in s v k (member t ts) r = split (is_in (numbered s) k t)
      (λ e.
      let inner = resting-put s v k t (from-first (report (numbered s) k t) (report_among (numbered s) (k + 1) ts) (sym (is_in-report (numbered s) k t) ∙ e) r) in
      rw e (omega arith))
      (λ e.
      let inner = resting-put_in s v (k + 1) ts (from-rest (report (numbered s) k t) (report_among (numbered s) (k + 1) ts) (none-there (report (numbered s) k t) (sym (is_in-report (numbered s) k t) ∙ e)) r) in
      rw e (omega arith))

-- a slot enters one abort after another, and then something is done to it
abbrev pub each : List Watch → Tree → Tree
each [] u = u
each (l ∷ ls) u = each ls (watches_at (with_last l) u)

pub entered-at : (F g : Tree → Tree) (s : ℕ) (ws : List Watch) (t : Tree) → at_slot (numbered s) F g 0 (all_entered s ws t) ≡ at_slot (numbered s) (λ u. F (each ws u)) g 0 t
entered-at F g s [] t = refl
entered-at F g s (l ∷ ls) t = entered-at F g s ls (entered s l t) ∙ at-at (λ u. F (each ls u)) g (watches_at (with_last l)) s 0 t

end-of : (v : List Watch) → v ≡ v ++ []
end-of [] = refl
end-of (x ∷ v) = ap (λ y. x ∷ y) (end-of v)

each-by : (ws v : List Watch) (a : Activity) → each ws (Leaf v a) ≡ Leaf (v ++ ws) a
each-by [] v a = ap (λ x. Leaf x a) (end-of v)
each-by (l ∷ ls) v a = each-by ls (v ++ l ∷ []) a ∙ ap (λ x. Leaf x a) (append_assoc v (l ∷ []) ls)

pub each-leaf : (ws : List Watch) (a : Activity) → each ws (Leaf [] a) ≡ Leaf ws a
each-leaf ws a = each-by ws [] a

-- what is reported of the slot that entered one
abbrev inside : (List Watch → List Watch) → Option Report → Option Report
inside h None = None
inside h (Some x) = Some (x.0, x.1, h x.2)

inside-or : (h : List Watch → List Watch) (a b : Option Report) → inside h (or_else a b) ≡ or_else (inside h a) (inside h b)
inside-or h None b = refl
inside-or h (Some a) b = refl

mutual
  report-inside : (h : List Watch → List Watch) (s k : ℕ) (t : Tree) → report (numbered s) k (at_slot (numbered s) (watches_at h) (λ u. u) k t) ≡ inside h (report (numbered s) k t)
  report-inside h s k (Leaf watches activity) = split (k == s) (λ b. rw b (rw b refl)) (λ b. rw b (rw b refl))
  report-inside h s k (Waits watches at lo group) =
      split (k == s)
      (λ b. rw b (rw b refl))
      (λ b. split (is_among (numbered s) lo group)
      (λ c. rw (b, c) (rw b (report-inside_among h s lo group)))
      (λ c.
      let none : report_among (numbered s) lo group ≡ None = none-there (report_among (numbered s) lo group) (sym (is_among-report (numbered s) lo group) ∙ c) in
      rw (b, c) (rw (b, none) refl)))

  report-inside_among : (h : List Watch → List Watch) (s k : ℕ) (ts : Group) → report_among (numbered s) k (at_member (numbered s) (watches_at h) (λ u. u) k ts) ≡ inside h (report_among (numbered s) k ts)
  report-inside_among h s k no_more = refl
  report-inside_among h s k (member t ts) =
      see (report (numbered s) k t)
      (λ none.
      let out : is_in (numbered s) k t ≡ false = is_in-report (numbered s) k t ∙ ap is_some none in
      rw (out, none) (report-inside_among h s (k + 1) ts))
      (λ y some.
      let has : is_in (numbered s) k t ≡ true = is_in-report (numbered s) k t ∙ ap is_some some in
      rw (has, report-inside h s k t, some) refl)

watches-by : (h : List Watch → List Watch) (o : Option Report) → IsReadyIn o → reported_watches (inside h o) ≡ h (reported_watches o)
watches-by h None r = cc
watches-by h (Some x) r = refl

pub watches-entered : (s : ℕ) (l : Watch) (t : Tree) → is_ready (slot_of s t) ≡ true → watches_of s (entered s l t) ≡ watches_of s t ++ l ∷ []
watches-entered s l t r = ap reported_watches (report-inside (with_last l) s 0 t) ∙ watches-by (with_last l) (report (numbered s) 0 t) r
