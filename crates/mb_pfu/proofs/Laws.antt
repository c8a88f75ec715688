-- Laws for the machine above.
use Rattle.std.proofs.Common.{◌≡◌, not, ℕ, ◌+◌, ◌==◌, Bool, true, false, ◌||◌, [], ◌∷◌, None, refl, ap, ◌∙◌, arith, is_some, add-zero}
use Rattle.mb_pfu.specs.Rows.{is_free, numbered, ready}
use Rattle.mb_pfu.specs.Tree.{Tree, Group, Leaf, Waits, no_more, member, Running, Pausing, Finished, size, append_group, settle, has_ready, any_ready, is_in, is_among, at_slot, at_member, report, report_among, slot_of}
use Rattle.mb_pfu.specs.Contexts.{Frame, Context, filled, plug, middle, climb, IsQuietBefore}
use Rattle.mb_pfu.proofs.Cases.{split, or-left-false, or-right-false, or_else-some}
use Rattle.mb_pfu.proofs.Frees.{taken-there}
use Rattle.mb_pfu.proofs.Trees.{is_in-report}

flip : (a b : Bool) → a ≡ not b → b ≡ not a
flip true true h = cc
flip true false h = refl
flip false true h = refl
flip false false h = cc

-- a slot is free exactly where it isn't in the tree
pub free-outside : (s : ℕ) (t : Tree) → is_free (slot_of s t) ≡ not (is_in (numbered s) 0 t)
free-outside s t = flip (is_in (numbered s) 0 t) (is_free (slot_of s t)) (is_in-report (numbered s) 0 t ∙ taken-there s t)

-- a tree has a ready slot where it says so
mutual
  pub is_in-ready : (k : ℕ) (t : Tree) → is_in ready k t ≡ has_ready t
  is_in-ready k (Leaf watches (Running place)) = refl
  is_in-ready k (Leaf watches (Pausing place)) = refl
  is_in-ready k (Leaf watches Finished) = refl
  is_in-ready k (Waits watches at lo group) = is_among-ready lo group

  pub is_among-ready : (k : ℕ) (ts : Group) → is_among ready k ts ≡ any_ready ts
  is_among-ready k no_more = refl
  is_among-ready k (member t ts) = ap (λ b. b || is_among ready (k + 1) ts) (is_in-ready k t) ∙ ap (λ b. has_ready t || b) (is_among-ready (k + 1) ts)

ready-append : (left : Group) (t : Tree) (right : Group) → has_ready t ≡ true → any_ready (append_group left (member t right)) ≡ true
ready-append no_more t right h = rw h refl
ready-append (member u left) t right h = split (has_ready u) (λ e. rw e refl) (λ e. rw e (ready-append left t right h))

pub ready-filled : (frame : Frame) (t : Tree) → has_ready t ≡ true → has_ready (filled frame t) ≡ true
ready-filled frame t h = ready-append frame.before t frame.behind h

-- a change at the first ready slot passes by what is before it
at-append : (f g : Tree → Tree) (k : ℕ) (left : Group) (t : Tree) (right : Group) → any_ready left ≡ false → has_ready t ≡ true →
    at_member ready f g k (append_group left (member t right)) ≡ append_group left (member (at_slot ready f g (k + size left) t) right)
at-append f g k no_more t right quiet h = let e : is_in ready k t ≡ true = is_in-ready k t ∙ h in rw (e, add-zero k) refl
at-append f g k (member u left) t right quiet h =
    let e : is_in ready k u ≡ false = is_in-ready k u ∙ or-left-false (has_ready u) (any_ready left) quiet in
    let n : k + 1 + size left ≡ k + (size left + 1) = omega arith in
    rw e (ap (member u) (at-append f g (k + 1) left t right (or-right-false (has_ready u) (any_ready left) quiet) h ∙ ap (λ m. append_group left (member (at_slot ready f g m t) right)) n))

-- a move of the first ready slot inside a context, where the context settles
pub at-plug : (f : Tree → Tree) (frames : Context) (t : Tree) → IsQuietBefore frames → has_ready t ≡ true →
    at_slot ready f settle 0 (plug frames t) ≡ climb frames (at_slot ready f settle (middle frames) t)
at-plug f [] t quiet h = refl
at-plug f (frame ∷ frames) t quiet h =
    let inner : has_ready (filled frame t) ≡ true = ready-filled frame t h in
    let among : is_among ready frame.lo (append_group frame.before (member t frame.behind)) ≡ true = is_among-ready frame.lo (append_group frame.before (member t frame.behind)) ∙ ready-append frame.before t frame.behind h in
    let here : at_slot ready f settle (middle frames) (filled frame t) ≡ settle (filled frame (at_slot ready f settle (frame.lo + size frame.before) t)) =
    rw among (ap (λ ts. settle (Waits frame.watches frame.at frame.lo ts)) (at-append f settle frame.lo frame.before t frame.behind quiet.0 h)) in
    at-plug f frames (filled frame t) quiet.1 inner ∙ ap (climb frames) here

-- the same where it stays
pub stay-plug : (f : Tree → Tree) (frames : Context) (t : Tree) → IsQuietBefore frames → has_ready t ≡ true →
    at_slot ready f (λ u. u) 0 (plug frames t) ≡ plug frames (at_slot ready f (λ u. u) (middle frames) t)
stay-plug f [] t quiet h = refl
stay-plug f (frame ∷ frames) t quiet h =
    let inner : has_ready (filled frame t) ≡ true = ready-filled frame t h in
    let among : is_among ready frame.lo (append_group frame.before (member t frame.behind)) ≡ true = is_among-ready frame.lo (append_group frame.before (member t frame.behind)) ∙ ready-append frame.before t frame.behind h in
    let here : at_slot ready f (λ u. u) (middle frames) (filled frame t) ≡ filled frame (at_slot ready f (λ u. u) (frame.lo + size frame.before) t) =
    rw among (ap (λ ts. Waits frame.watches frame.at frame.lo ts) (at-append f (λ u. u) frame.lo frame.before t frame.behind quiet.0 h)) in
    stay-plug f frames (filled frame t) quiet.1 inner ∙ ap (plug frames) here

settle-ready : (frame : Frame) (t : Tree) → has_ready t ≡ true → settle (filled frame t) ≡ filled frame t
settle-ready frame t h = rw (ready-append frame.before t frame.behind h) refl

-- where the middle is ready nothing settles
pub climb-ready : (frames : Context) (t : Tree) → has_ready t ≡ true → climb frames t ≡ plug frames t
climb-ready [] t h = refl
climb-ready (frame ∷ frames) t h = ap (climb frames) (settle-ready frame t h) ∙ climb-ready frames (filled frame t) (ready-filled frame t h)

-- no ready slot is reported where none is
mutual
  report-quiet : (k : ℕ) (t : Tree) → has_ready t ≡ false → report ready k t ≡ None
  report-quiet k (Leaf watches (Running place)) h = cc
  report-quiet k (Leaf watches (Pausing place)) h = refl
  report-quiet k (Leaf watches Finished) h = refl
  report-quiet k (Waits watches at lo group) h = report-quiet_among lo group h

  report-quiet_among : (k : ℕ) (ts : Group) → any_ready ts ≡ false → report_among ready k ts ≡ None
  report-quiet_among k no_more h = refl
  report-quiet_among k (member t ts) h = rw (report-quiet k t (or-left-false (has_ready t) (any_ready ts) h)) (report-quiet_among (k + 1) ts (or-right-false (has_ready t) (any_ready ts) h))

report-append : (k : ℕ) (left : Group) (t : Tree) (right : Group) → any_ready left ≡ false → is_some (report ready (k + size left) t) ≡ true →
    report_among ready k (append_group left (member t right)) ≡ report ready (k + size left) t
report-append k no_more t right quiet h = rw (add-zero k) (or_else-some (report ready k t) (report_among ready (k + 1) right) (rw (add-zero k) at h))
report-append k (member u left) t right quiet h =
    let n : k + (size left + 1) ≡ k + 1 + size left = omega arith in
    rw (report-quiet k u (or-left-false (has_ready u) (any_ready left) quiet), n)
    (report-append (k + 1) left t right (or-right-false (has_ready u) (any_ready left) quiet) (rw n at h))

-- the first ready slot is that of the middle
pub report-plug : (frames : Context) (t : Tree) → IsQuietBefore frames → is_some (report ready (middle frames) t) ≡ true → report ready 0 (plug frames t) ≡ report ready (middle frames) t
report-plug [] t quiet h = refl
report-plug (frame ∷ frames) t quiet h =
    let here : report ready (middle frames) (filled frame t) ≡ report ready (frame.lo + size frame.before) t = report-append frame.lo frame.before t frame.behind quiet.0 h in
    report-plug frames (filled frame t) quiet.1 (ap is_some here ∙ h) ∙ here

-- two changes at one number
at-here : (f g : Tree → Tree) (s k : ℕ) (t : Tree) → (k == s) ≡ true → at_slot (numbered s) f g k t ≡ f t
at-here f g s k (Leaf watches activity) e = rw e refl
at-here f g s k (Waits watches at lo group) e = rw e refl

in-here : (s k : ℕ) (t : Tree) → (k == s) ≡ true → is_in (numbered s) k t ≡ true
in-here s k (Leaf watches activity) e = e
in-here s k (Waits watches at lo group) e = rw e refl

mutual
  in-at : (h : Tree → Tree) (s k : ℕ) (t : Tree) → is_in (numbered s) k t ≡ true → is_in (numbered s) k (at_slot (numbered s) h (λ u. u) k t) ≡ true
  in-at h s k (Leaf watches activity) has = rw has (in-here s k (h (Leaf watches activity)) has)
  in-at h s k (Waits watches at lo group) has =
      split (k == s)
      (λ e. rw e (in-here s k (h (Waits watches at lo group)) e))
      (λ e.
      let among : is_among (numbered s) lo group ≡ true = rw e at has in
      rw (e, among, e) (among-at h s lo group among))

  among-at : (h : Tree → Tree) (s k : ℕ) (ts : Group) → is_among (numbered s) k ts ≡ true → is_among (numbered s) k (at_member (numbered s) h (λ u. u) k ts) ≡ true
  among-at h s k no_more has = cc
  among-at h s k (member t ts) has =
      split (is_in (numbered s) k t)
      (λ e. rw (e, in-at h s k t e) refl)
      (λ e.
      let more : is_among (numbered s) (k + 1) ts ≡ true = rw e at has in
      rw (e, e) (among-at h s (k + 1) ts more))

mutual
  pub at-at : (f g h : Tree → Tree) (s k : ℕ) (t : Tree) → at_slot (numbered s) f g k (at_slot (numbered s) h (λ u. u) k t) ≡ at_slot (numbered s) (λ u. f (h u)) g k t
  at-at f g h s k (Leaf watches activity) = split (k == s) (λ e. rw e (at-here f g s k (h (Leaf watches activity)) e)) (λ e. rw e (rw e refl))
  at-at f g h s k (Waits watches at lo group) =
      split (k == s)
      (λ e. rw e (at-here f g s k (h (Waits watches at lo group)) e))
      (λ e. split (is_among (numbered s) lo group)
      (λ has. rw (e, has, e, among-at h s lo group has) (ap (λ ts. g (Waits watches at lo ts)) (at-at_member f g h s lo group)))
      (λ has. rw (e, has) (rw (e, has) refl)))

  at-at_member : (f g h : Tree → Tree) (s k : ℕ) (ts : Group) → at_member (numbered s) f g k (at_member (numbered s) h (λ u. u) k ts) ≡ at_member (numbered s) (λ u. f (h u)) g k ts
  at-at_member f g h s k no_more = refl
  at-at_member f g h s k (member t ts) =
      split (is_in (numbered s) k t)
      (λ e. rw (e, in-at h s k t e) (ap (λ u. member u ts) (at-at f g h s k t)))
      (λ e. rw (e, e) (ap (member t) (at-at_member f g h s (k + 1) ts)))
