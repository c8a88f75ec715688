-- Where the slots stand that a residual is left in.
use Rattle.std.specs.Prelude.{◌≡◌, ℕ, ◌+◌, ◌&&◌, ◌++◌, not, Bool, true, false, List, [], ◌∷◌}
use Rattle.mb_pfu.specs.declared.parts.Watch.{Watch}
use Rattle.mb_pfu.specs.Tree.{Tree, Group, Leaf, Waits, no_more, member, Running, Pausing, Finished}
use Rattle.pt_image.specs.declared.Parts.{Parts}
use Rattle.pc_lower.specs.Flow.{Rest, Rests, at as at_pause, ahead, within, group, nobody, over, going}
use Rattle.pc_lower.specs.Places.{pause_place, fork_place, first_child, line, watch}

abbrev pub cut : Bool → Tree → Tree → Tree
cut true a b = a
cut false a b = b

module _ (image : Parts) where
  -- A tree is where a residual stands between two ticks, in a slot inside these entries, the outermost first. The entries
  -- that the residual adds aren't fired; they may be of this tick or older.
  abbrev mutual
    pub Stands : List Watch → Rest → Tree → Type 0
    Stands e (at_pause i) t = t ≡ Leaf e (Pausing (pause_place image i))
    Stands e (ahead r nodes) t = Stands e r t
    Stands e (within j r) t = (aged : Bool) × Stands (e ++ watch image j aged false ∷ []) r t
    Stands e (group i rs) t = (ts : Group) × (t ≡ Waits e (fork_place image i) (first_child image i) ts) × StandAll rs ts

    -- a thread that is over has ended, and each other one stands in its slot
    pub StandAll : Rests → Group → Type 0
    StandAll nobody ts = ts ≡ no_more
    StandAll (over rs) ts = (more : Group) × (ts ≡ member (Leaf [] Finished) more) × StandAll rs more
    StandAll (going r rs) ts = (t : Tree) × (more : Group) × (ts ≡ member t more) × Stands [] r t × StandAll rs more

  -- The same tree after the conditions were looked at and the paused slots woken: a strong abort that fires is left at its
  -- handler, a weak one is fired.
  abbrev mutual
    pub woken : (ℕ → Bool) → List Watch → Rest → Tree
    woken fires e (at_pause i) = Leaf e (Running (pause_place image i + 1))
    woken fires e (ahead r nodes) = woken fires e r
    woken fires e (within j r) =
        cut (not (line image j).weak && fires j)
        (Leaf e (Running (line image j).handler))
        (woken fires (e ++ watch image j true ((line image j).weak && fires j) ∷ []) r)
    woken fires e (group i rs) = Waits e (fork_place image i) (first_child image i) (woken_all fires rs)

    pub woken_all : (ℕ → Bool) → Rests → Group
    woken_all fires nobody = no_more
    woken_all fires (over rs) = member (Leaf [] Finished) (woken_all fires rs)
    woken_all fires (going r rs) = member (woken fires [] r) (woken_all fires rs)
