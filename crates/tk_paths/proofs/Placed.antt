-- The states of a configuration have places of the code.
use Rattle.std.proofs.Common.{◌≡◌, ◌<◌, ◌+◌, ◌==◌, map, ℕ, zero, suc, Bool, true, false, if◌then◌else◌, List, length, Option, Some, None, refl, sym, ap, ◌∙◌, subst, ⊎_elim, eqb-true, arith}
use Rattle.std.specs.List.{AllByRecursion, range_with_len}
use Rattle.mb_pfu.specs.declared.parts.Watch.{Watch}
use Rattle.mb_pfu.specs.Rows.{or_else, Selector, numbered, Report}
use Rattle.mb_pfu.specs.Tree.{Activity, Running, Pausing, Finished, Tree, Group, Leaf, Waits, no_more, member, size, slot_of_activity, report, report_among, reported_state, slot_of}
use Rattle.mb_pfu.specs.declared.parts.Slot.TheVariants.{Waiting}
use Rattle.mb_pfu.specs.Unit.{State}
use Rattle.pt_image.specs.declared.Point.{Point}
use Rattle.pt_image.specs.declared.Parts.{Parts}
use Rattle.pt_image.specs.Listed.{is_listed, is_point, same_numbers}
use Rattle.pt_image.specs.Ranges.{IsPoint, IsImage}
use Rattle.tk_cert.specs.declared.cert.State.{State as WalkState}
use Rattle.tk_cert.specs.Form.{IsState}
use Rattle.mb_isa.specs.Free.{IsConfigured, IsConfiguration, IsLoose, AreAtRest, numbers_of}
use Rattle.tk_paths.specs.Walks.{state_of, states_of}
use Rattle.tk_paths.proofs.Lists.{any-passes, all-among, three_parts}

-- the places where slots are paused or wait are those of the code
abbrev mutual
  Placed : Tree → Type 0
  Placed (Leaf ws (Running place)) = Unit {0}
  Placed (Leaf ws (Pausing place)) = place < 65536
  Placed (Leaf ws Finished) = Unit {0}
  Placed (Waits ws at lo group) = (at < 65536) × PlacedGroup group

  PlacedGroup : Group → Type 0
  PlacedGroup no_more = Unit {0}
  PlacedGroup (member t ts) = Placed t × PlacedGroup ts

abbrev Reported : Option Report → Type 0
Reported None = Unit {0}
Reported (Some r) = IsState (state_of r.1)

reported-else : (a b : Option Report) → Reported a → Reported b → Reported (or_else a b)
reported-else None b x y = y
reported-else (Some r) b x y = x

leaf-state : (ws : List Watch) (activity : Activity) → Placed (Leaf ws activity) → IsState (state_of (slot_of_activity activity))
leaf-state ws (Running place) h = tt
leaf-state ws (Pausing place) h = h
leaf-state ws Finished h = tt

mutual
  reports : (p : Selector) (k : ℕ) (t : Tree) → Placed t → Reported (report p k t)
  reports p k (Leaf ws activity) h = by (p k (slot_of_activity activity) ws)
    where
      by : (b : Bool) → Reported (if b then Some (k, slot_of_activity activity, ws) else None)
      by true = leaf-state ws activity h
      by false = tt
  reports p k (Waits ws at lo group) h = by (p k (Waiting at lo (size group)) ws) (reports-among p lo group h.1)
    where
      by : (b : Bool) → Reported (report_among p lo group) → Reported (if b then Some (k, Waiting at lo (size group), ws) else report_among p lo group)
      by true later = h.0
      by false later = later

  reports-among : (p : Selector) (k : ℕ) (ts : Group) → PlacedGroup ts → Reported (report_among p k ts)
  reports-among p k no_more h = tt
  reports-among p k (member t ts) h = reported-else (report p k t) (report_among p (k + 1) ts) (reports p k t h.0) (reports-among p (k + 1) ts h.1)

state-placed : (s : ℕ) (t : Tree) → Placed t → IsState (state_of (slot_of s t))
state-placed s t h = by (report (numbered s) 0 t) (reports (numbered s) 0 t h)
  where
    by : (o : Option Report) → Reported o → IsState (state_of (reported_state o))
    by None x = tt
    by (Some r) x = x

states-placed : (t : Tree) → Placed t → (n k : ℕ) → AllByRecursion IsState (map (λ s. state_of (slot_of s t)) (range_with_len k n))
states-placed t h zero k = tt
states-placed t h (suc n) k = (state-placed k t h, states-placed t h n (k + 1))

states-size : (f : ℕ → WalkState) (n k : ℕ) → length (map f (range_with_len k n)) ≡ n
states-size f zero k = refl
states-size f (suc n) k = ap suc (states-size f n (k + 1))

module _ (image : Parts) (image_is : IsImage image) where
  listed-place : (points : List Point) (at s : ℕ) (a : List ℕ) → AllByRecursion (IsPoint image) points → is_listed points at s a ≡ true → at < 65536
  listed-place points at s a h l =
      let p = any-passes (is_point at s a) points l in
      let x = three_parts (p.which.at == at) (p.which.slot == s) (same_numbers p.which.stack a) p.passes in
      let e = eqb-true p.which.at at x.0 in
      let low = (all-among (IsPoint image) points p.which h p.among).0 in
      let most = image_is.code.1 in
      omega (arith, e, low, most)

  mutual
    loose-placed : (k : ℕ) (t : Tree) → IsLoose image k t → Placed t
    loose-placed k (Leaf ws (Running place)) h = absurd h
    loose-placed k (Leaf ws (Pausing place)) h = listed-place image.pauses place k (numbers_of ws) image_is.pauses.1 h.0
    loose-placed k (Leaf ws Finished) h = absurd h
    loose-placed k (Waits ws at lo group) h = (listed-place image.forks at k (numbers_of ws) image_is.forks.1 h.0, rest-placed lo group h.3)

    rest-placed : (k : ℕ) (ts : Group) → AreAtRest image k ts → PlacedGroup ts
    rest-placed k no_more h = tt
    rest-placed k (member t ts) h = (⊎_elim (λ e. subst Placed (sym e) tt) (λ l. loose-placed k t l) h.0, rest-placed (k + 1) ts h.1)

  configured-placed : (t : Tree) → IsConfigured image t → Placed t
  configured-placed t h = ⊎_elim (λ e. subst Placed (sym e) tt) (λ r. ⊎_elim (λ e. subst Placed (sym e) tt) (λ l. loose-placed 0 t l) r) h

  -- the states of a configuration
  pub configuration-placed : (u : State) → IsConfiguration image u → AllByRecursion IsState (states_of u) × (length (states_of u) ≡ length image.slots)
  configuration-placed u c = (states-placed u.tree (configured-placed u.tree c.tree) u.slots 0, states-size (λ s. state_of (slot_of s u.tree)) u.slots 0 ∙ c.slots)
