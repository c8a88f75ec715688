-- Which slot starts which: trees and contexts whose slots stand where they belong.
use Rattle.std.specs.Prelude.{◌≡◌, ℕ, zero, suc, ◌+◌, ◌<◌, ◌==◌, false, List, [], ◌∷◌}
use Rattle.mb_pfu.specs.Rows.{numbered}
use Rattle.mb_pfu.specs.Tree.{Tree, Group, Leaf, Waits, no_more, member, size, any_ready, is_among}
use Rattle.mb_pfu.specs.Contexts.{Context, middle}

-- a number is that of no slot above the middle of a context or beside it
abbrev pub Outside : ℕ → Context → Type 0
Outside q [] = Unit {0}
Outside q (f ∷ fs) =
    ((middle fs == q) ≡ false) × (is_among (numbered q) f.lo f.before ≡ false)
    × (is_among (numbered q) (f.lo + size f.before + 1) f.behind ≡ false) × Outside q fs

-- so many slots in a row run these functions
abbrev pub Runs : (ℕ → ℕ) → ℕ → List ℕ → Type 0
Runs thread c [] = Unit {0}
Runs thread c (f ∷ fs) = (thread c ≡ f) × Runs thread (c + 1) fs

-- each slot but the first is started by one slot, its parent
module _ (parent : ℕ → ℕ) where
  -- c is a slot that slot k starts; its number is the greater one
  abbrev pub IsChild : ℕ → ℕ → Type 0
  IsChild k c = (parent c ≡ k) × (k < c)

  -- so many slots in a row are children of slot s
  abbrev pub AreChildren : ℕ → ℕ → ℕ → Type 0
  AreChildren s c zero = Unit {0}
  AreChildren s c (suc n) = IsChild s c × AreChildren s (c + 1) n

  -- a slot is s, or stands somewhere under it
  pub data Under (s : ℕ) : ℕ → Type 0 where
    self : {q : ℕ} → q ≡ s → Under s q
    deeper : {q : ℕ} → parent q < q → Under s (parent q) → Under s q

  -- in the tree of slot k each group is of its slot's children
  abbrev mutual
    pub Fits : ℕ → Tree → Type 0
    Fits k (Leaf watches activity) = Unit {0}
    Fits k (Waits watches at lo group) = FitsGroup k lo group

    pub FitsGroup : ℕ → ℕ → Group → Type 0
    FitsGroup k c no_more = Unit {0}
    FitsGroup k c (member t ts) = IsChild k c × Fits c t × FitsGroup k (c + 1) ts

  -- round the middle of a context all slots stand where they belong
  abbrev pub IsFitted : Context → Type 0
  IsFitted [] = Unit {0}
  IsFitted (f ∷ fs) =
      FitsGroup (middle fs) f.lo f.before × IsChild (middle fs) (f.lo + size f.before)
      × FitsGroup (middle fs) (f.lo + size f.before + 1) f.behind × IsFitted fs

  -- and nothing before the middle is ready, so the slot in the middle takes the next turn where it is ready
  abbrev pub IsGood : Context → Type 0
  IsGood [] = Unit {0}
  IsGood (f ∷ fs) =
      (any_ready f.before ≡ false) × FitsGroup (middle fs) f.lo f.before × IsChild (middle fs) (f.lo + size f.before)
      × FitsGroup (middle fs) (f.lo + size f.before + 1) f.behind × IsGood fs
