-- Entering and leaving an abort change no slot's state.
use Rattle.std.proofs.Common.{◌≡◌, ℕ, ◌+◌, ◌==◌, Bool, true, false, if◌then◌else◌, List, Option, Some, None, refl, sym, ap, ◌∙◌}
use Rattle.mb_pfu.specs.declared.parts.Slot.{Slot}
use Rattle.mb_pfu.specs.declared.parts.Slot.TheVariants.{Free, Waiting}
use Rattle.mb_pfu.specs.declared.parts.Watch.{Watch}
use Rattle.mb_pfu.specs.Rows.{Report, Selector, numbered, ready, or_else, with_last, without_last}
use Rattle.mb_pfu.specs.Tree.{Tree, Group, Leaf, Waits, no_more, member, size, slot_of_activity, is_in, is_among, at_slot, at_member, report, report_among, watches_at, slot_of, reported_state, reported_number, next_job, entered, left}
use Rattle.mb_pfu.proofs.Cases.{split}
use Rattle.mb_pfu.proofs.Climbs.{size-at_member}

-- the number and the state of a slot that is reported
abbrev standing : Option Report → Option (ℕ × Slot)
standing None = None
standing (Some x) = Some (x.0, x.1)

standing-or : (a b : Option Report) → standing (or_else a b) ≡ or_else (standing a) (standing b)
standing-or None b = refl
standing-or (Some a) b = refl

standing-if : (b : Bool) (k : ℕ) (state : Slot) (some more : List Watch) (r r' : Option Report) → standing r ≡ standing r' → standing (if b then Some (k, state, some) else r) ≡ standing (if b then Some (k, state, more) else r')
standing-if true k state some more r r' h = refl
standing-if false k state some more r r' h = h

-- which slots are meant doesn't depend on their aborts
abbrev IsBlind : Selector → Type 0
IsBlind p = (k : ℕ) (state : Slot) (some more : List Watch) → p k state some ≡ p k state more

mutual
  standing-at : (p : Selector) → IsBlind p → (h : List Watch → List Watch) (s k : ℕ) (t : Tree) → standing (report p k (at_slot (numbered s) (watches_at h) (λ u. u) k t)) ≡ standing (report p k t)
  standing-at p blind h s k (Leaf watches activity) =
      split (k == s)
      (λ b. rw (b, blind k (slot_of_activity activity) (h watches) watches) (standing-if (p k (slot_of_activity activity) watches) k (slot_of_activity activity) (h watches) watches None None refl))
      (λ b. rw b refl)
  standing-at p blind h s k (Waits watches at lo group) =
      split (k == s)
      (λ b. rw (b, blind k (Waiting at lo (size group)) (h watches) watches)
      (standing-if (p k (Waiting at lo (size group)) watches) k (Waiting at lo (size group)) (h watches) watches (report_among p lo group) (report_among p lo group) refl))
      (λ b. split (is_among (numbered s) lo group)
      (λ c. rw (b, c, size-at_member (numbered s) (watches_at h) (λ u. u) lo group)
      (standing-if (p k (Waiting at lo (size group)) watches) k (Waiting at lo (size group)) watches watches (report_among p lo (at_member (numbered s) (watches_at h) (λ u. u) lo group)) (report_among p lo group)
      (standing-at_member p blind h s lo group)))
      (λ c. rw (b, c) refl))

  standing-at_member : (p : Selector) → IsBlind p → (h : List Watch → List Watch) (s k : ℕ) (ts : Group) →
      standing (report_among p k (at_member (numbered s) (watches_at h) (λ u. u) k ts)) ≡ standing (report_among p k ts)
  standing-at_member p blind h s k no_more = refl
  standing-at_member p blind h s k (member t ts) =
      split (is_in (numbered s) k t)
      (λ b. rw b (standing-or (report p k (at_slot (numbered s) (watches_at h) (λ u. u) k t)) (report_among p (k + 1) ts)
      ∙ ap (λ o. or_else o (standing (report_among p (k + 1) ts))) (standing-at p blind h s k t) ∙ sym (standing-or (report p k t) (report_among p (k + 1) ts))))
      (λ b. rw b (standing-or (report p k t) (report_among p (k + 1) (at_member (numbered s) (watches_at h) (λ u. u) (k + 1) ts))
      ∙ ap (λ o. or_else (standing (report p k t)) o) (standing-at_member p blind h s (k + 1) ts) ∙ sym (standing-or (report p k t) (report_among p (k + 1) ts))))

abbrev standing_state : Option (ℕ × Slot) → Slot
standing_state None = Free
standing_state (Some x) = x.1

abbrev standing_number : Option (ℕ × Slot) → Option ℕ
standing_number None = None
standing_number (Some x) = Some x.0

state-standing : (o : Option Report) → reported_state o ≡ standing_state (standing o)
state-standing None = refl
state-standing (Some x) = refl

number-standing : (o : Option Report) → reported_number o ≡ standing_number (standing o)
number-standing None = refl
number-standing (Some x) = refl

state-kept : (h : List Watch → List Watch) (q s : ℕ) (t : Tree) → slot_of q (at_slot (numbered s) (watches_at h) (λ u. u) 0 t) ≡ slot_of q t
state-kept h q s t =
    state-standing (report (numbered q) 0 (at_slot (numbered s) (watches_at h) (λ u. u) 0 t)) ∙ ap standing_state (standing-at (numbered q) (λ k state some more. refl) h s 0 t)
    ∙ sym (state-standing (report (numbered q) 0 t))

job-kept : (h : List Watch → List Watch) (s : ℕ) (t : Tree) → next_job (at_slot (numbered s) (watches_at h) (λ u. u) 0 t) ≡ next_job t
job-kept h s t =
    number-standing (report ready 0 (at_slot (numbered s) (watches_at h) (λ u. u) 0 t)) ∙ ap standing_number (standing-at ready (λ k state some more. refl) h s 0 t) ∙ sym (number-standing (report ready 0 t))

-- each slot's state stays where one enters or leaves an abort: the slot that does so is still ready
pub enter-states : (q s : ℕ) (l : Watch) (t : Tree) → slot_of q (entered s l t) ≡ slot_of q t
enter-states q s l t = state-kept (with_last l) q s t

pub leave-states : (q s : ℕ) (t : Tree) → slot_of q (left s t) ≡ slot_of q t
leave-states q s t = state-kept without_last q s t

-- and so does the first ready slot
pub enter-next : (s : ℕ) (l : Watch) (t : Tree) → next_job (entered s l t) ≡ next_job t
enter-next s l t = job-kept (with_last l) s t

pub leave-next : (s : ℕ) (t : Tree) → next_job (left s t) ≡ next_job t
leave-next s t = job-kept without_last s t
