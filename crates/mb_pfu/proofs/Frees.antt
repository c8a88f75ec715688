-- A slot is free exactly where it isn't in the tree.
use Rattle.std.proofs.Common.{◌≡◌, ℕ, ◌+◌, ◌==◌, Bool, true, false, not, if◌then◌else◌, List, Option, Some, None, refl, is_some}
use Rattle.mb_pfu.specs.declared.parts.Slot.TheVariants.{Waiting}
use Rattle.mb_pfu.specs.declared.parts.Watch.{Watch}
use Rattle.mb_pfu.specs.Rows.{Report, numbered, or_else, is_free}
use Rattle.mb_pfu.specs.Tree.{Tree, Group, Leaf, Waits, no_more, member, Activity, Running, Pausing, Finished, size, slot_of_activity, report, report_among, reported_state, slot_of}

abbrev IsTaken : Option Report → Type 0
IsTaken o = is_some o ≡ not (is_free (reported_state o))

leaf-taken : (b : Bool) (k : ℕ) (activity : Activity) (watches : List Watch) → IsTaken (if b then Some (k, slot_of_activity activity, watches) else None)
leaf-taken true k (Running place) watches = refl
leaf-taken true k (Pausing place) watches = refl
leaf-taken true k Finished watches = refl
leaf-taken false k activity watches = refl

waits-taken : (b : Bool) (k at lo n : ℕ) (watches : List Watch) (o : Option Report) → IsTaken o → IsTaken (if b then Some (k, Waiting at lo n, watches) else o)
waits-taken true k at lo n watches o h = refl
waits-taken false k at lo n watches o h = h

or-taken : (a b : Option Report) → IsTaken a → IsTaken b → IsTaken (or_else a b)
or-taken None b h h' = h'
or-taken (Some a) b h h' = h

mutual
  taken : (s k : ℕ) (t : Tree) → IsTaken (report (numbered s) k t)
  taken s k (Leaf watches activity) = leaf-taken (k == s) k activity watches
  taken s k (Waits watches at lo group) = waits-taken (k == s) k at lo (size group) watches (report_among (numbered s) lo group) (taken-among s lo group)

  taken-among : (s k : ℕ) (ts : Group) → IsTaken (report_among (numbered s) k ts)
  taken-among s k no_more = refl
  taken-among s k (member t ts) = or-taken (report (numbered s) k t) (report_among (numbered s) (k + 1) ts) (taken s k t) (taken-among s (k + 1) ts)

pub taken-there : (s : ℕ) (t : Tree) → is_some (report (numbered s) 0 t) ≡ not (is_free (slot_of s t))
taken-there s t = taken s 0 t
