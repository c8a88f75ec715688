-- The way up from a slot, in rows and in the tree.
use Rattle.std.proofs.Common.{◌≡◌, ℕ, ◌+◌, ◌≤◌, true, false, List, refl, ap, arith, lt-ltb, le-ltb}
use Rattle.mb_pfu.specs.declared.parts.Slot.TheVariants.{Waiting}
use Rattle.mb_pfu.specs.Rows.{SlotRow, stops, climbed, Climbed, at_first, Selector}
use Rattle.mb_pfu.specs.Tree.{Tree, Group, Leaf, Waits, no_more, member, size, spelled, spelled_group, is_in, is_among, at_slot, at_member}
use Rattle.mb_pfu.proofs.Groups.{stops-deeper, stops-group}
use Rattle.mb_pfu.proofs.Cases.{split, or-right, or-left-false, or-right-false}

-- a change of rows is this change of a tree
abbrev pub Acts : (SlotRow → List SlotRow → List SlotRow) → (Tree → Tree) → Type 0
Acts F f = (level s : ℕ) (t : Tree) (rows : List SlotRow) → stops level rows ≡ true → at_first F (spelled level s t rows) ≡ spelled level s (f t) rows

pub size-at_member : (p : Selector) (f g : Tree → Tree) (k : ℕ) (ts : Group) → size (at_member p f g k ts) ≡ size ts
size-at_member p f g k no_more = refl
size-at_member p f g k (member t ts) =
    split (is_in p k t) (λ e. rw e refl) (λ e. rw e (ap (λ n. n + 1) (size-at_member p f g (k + 1) ts)))

-- the slots of a tree of which none is selected stay
mutual
  climbed-past : (p : Selector) (F G : SlotRow → List SlotRow → List SlotRow) (level k : ℕ) (t : Tree) (rows : List SlotRow) (c : Climbed) →
      is_in p k t ≡ false → climbed p F G rows ≡ c → c.1 ≤ level → climbed p F G (spelled level k t rows) ≡ (spelled level k t c.0, c.1)
  climbed-past p F G level k (Leaf watches activity) rows c out e h = rw (out, e, le-ltb level c.1 h) refl
  climbed-past p F G level k (Waits watches at lo group) rows c out e h =
      rw (
        or-left-false (p k (Waiting at lo (size group)) watches) (is_among p lo group) out,
        climbed-past-group p F G (level + 1) lo group rows c (or-right-false (p k (Waiting at lo (size group)) watches) (is_among p lo group) out) e (omega arith),
        le-ltb level c.1 h,
      ) refl

  climbed-past-group : (p : Selector) (F G : SlotRow → List SlotRow → List SlotRow) (level k : ℕ) (ts : Group) (rows : List SlotRow) (c : Climbed) →
      is_among p k ts ≡ false → climbed p F G rows ≡ c → c.1 ≤ level → climbed p F G (spelled_group level k ts rows) ≡ (spelled_group level k ts c.0, c.1)
  climbed-past-group p F G level k no_more rows c out e h = e
  climbed-past-group p F G level k (member t ts) rows c out e h =
      climbed-past p F G level k t (spelled_group level (k + 1) ts rows) (spelled_group level (k + 1) ts c.0, c.1) (or-left-false (is_in p k t) (is_among p (k + 1) ts) out)
      (climbed-past-group p F G level (k + 1) ts rows c (or-right-false (is_in p k t) (is_among p (k + 1) ts) out) e h) h

mutual
  pub climbed-in : (p : Selector) (F G : SlotRow → List SlotRow → List SlotRow) (f g : Tree → Tree) → Acts F f → Acts G g → (level k : ℕ) (t : Tree) (rows : List SlotRow) →
      is_in p k t ≡ true → stops level rows ≡ true → climbed p F G (spelled level k t rows) ≡ (spelled level k (at_slot p f g k t) rows, level)
  climbed-in p F G f g acts acts' level k (Leaf watches activity) rows has h = rw has (ap (λ (rs : List SlotRow). (rs, level)) (acts level k (Leaf watches activity) rows h))
  climbed-in p F G f g acts acts' level k (Waits watches at lo group) rows has h =
      split (p k (Waiting at lo (size group)) watches)
      (λ e. rw e (ap (λ (rs : List SlotRow). (rs, level)) (acts level k (Waits watches at lo group) rows h)))
      (λ e.
      let among : is_among p lo group ≡ true = or-right (p k (Waiting at lo (size group)) watches) (is_among p lo group) e has in
      rw (e, among, climbed-among p F G f g acts acts' (level + 1) lo group rows among (stops-deeper level (level + 1) rows (omega arith) h), lt-ltb level (level + 1) (omega arith), ← size-at_member p f g lo group)
      (ap (λ (rs : List SlotRow). (rs, level)) (acts' level k (Waits watches at lo (at_member p f g lo group)) rows h)))

  pub climbed-among : (p : Selector) (F G : SlotRow → List SlotRow → List SlotRow) (f g : Tree → Tree) → Acts F f → Acts G g → (level k : ℕ) (ts : Group) (rows : List SlotRow) →
      is_among p k ts ≡ true → stops level rows ≡ true → climbed p F G (spelled_group level k ts rows) ≡ (spelled_group level k (at_member p f g k ts) rows, level)
  climbed-among p F G f g acts acts' level k no_more rows has h = cc
  climbed-among p F G f g acts acts' level k (member t ts) rows has h =
      split (is_in p k t)
      (λ e. rw e (climbed-in p F G f g acts acts' level k t (spelled_group level (k + 1) ts rows) e (stops-group level (k + 1) ts rows h)))
      (λ e. rw e (climbed-past p F G level k t (spelled_group level (k + 1) ts rows) (spelled_group level (k + 1) (at_member p f g (k + 1) ts) rows, level) e
      (climbed-among p F G f g acts acts' level (k + 1) ts rows (or-right (is_in p k t) (is_among p (k + 1) ts) e has) h) (omega arith)))
