-- The same, slot by slot: which state each slot has that a residual stands in.
use Rattle.std.specs.Prelude.{◌≡◌, ℕ, ◌+◌, ◌==◌, ◌||◌, Bool, false}
use Rattle.mb_pfu.specs.declared.parts.Slot.TheVariants.{Free, Paused, Waiting, Ended}
use Rattle.mb_pfu.specs.Tree.{Tree, slot_of}
use Rattle.pt_image.specs.declared.Parts.{Parts}
use Rattle.pc_lower.specs.Flow.{Rest, Rests, at as at_pause, ahead, within, group, nobody, over, going}
use Rattle.pc_lower.specs.Places.{pause_place, fork_place, first_child}

-- how many threads a group has
abbrev pub members : Rests → ℕ
members nobody = 0
members (over rs) = members rs + 1
members (going r rs) = members rs + 1

module _ (image : Parts) where
  -- a slot is one of those in which a residual stands, slot k being its own
  abbrev mutual
    pub is_of : (q k : ℕ) → Rest → Bool
    is_of q k (at_pause i) = k == q
    is_of q k (ahead r nodes) = is_of q k r
    is_of q k (within j r) = is_of q k r
    is_of q k (group i rs) = k == q || is_of_all q (first_child image i) rs

    pub is_of_all : (q k : ℕ) → Rests → Bool
    is_of_all q k nobody = false
    is_of_all q k (over rs) = k == q || is_of_all q (k + 1) rs
    is_of_all q k (going r rs) = is_of q k r || is_of_all q (k + 1) rs

  module _ (t : Tree) where
    -- slot k is paused at the place of its pause, or waits at the place of its fork, and its children stand as the members
    abbrev mutual
      pub SlotStands : (k : ℕ) → Rest → Type 0
      SlotStands k (at_pause i) = slot_of k t ≡ Paused (pause_place image i)
      SlotStands k (ahead r nodes) = SlotStands k r
      SlotStands k (within j r) = SlotStands k r
      SlotStands k (group i rs) =
          (slot_of k t ≡ Waiting (fork_place image i) (first_child image i) (members rs)) × SlotsStand (first_child image i) rs

      pub SlotsStand : (k : ℕ) → Rests → Type 0
      SlotsStand k nobody = Unit {0}
      SlotsStand k (over rs) = (slot_of k t ≡ Ended) × SlotsStand (k + 1) rs
      SlotsStand k (going r rs) = SlotStands k r × SlotsStand (k + 1) rs

-- slot 0 stands so, and all other slots are free
pub record StandsSlotwise (image : Parts) (r : Rest) (t : Tree) : Type 0 where
  pub stands : SlotStands image t 0 r
  pub others : (q : ℕ) → is_of image q 0 r ≡ false → slot_of q t ≡ Free
