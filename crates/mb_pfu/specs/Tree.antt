-- The slots as a tree, and the moves of one slot: "The unit" in docs/machine.md.
use Rattle.std.specs.Prelude.{not, map, take, ◌≤◌, ◌≡◌, ℕ, zero, suc, ◌+◌, ◌==◌, ◌||◌, ◌&&◌, Bool, true, false, if◌then◌else◌, List, [], ◌∷◌, Option, Some, None}
use Rattle.mb_pfu.specs.declared.parts.Slot.{Slot}
use Rattle.mb_pfu.specs.declared.parts.Slot.TheVariants.{Free, Ready, Paused, Waiting, Ended}
use Rattle.mb_pfu.specs.declared.parts.Watch.{Watch}
use Rattle.mb_pfu.specs.Rows.{SlotRow, row, relief, or_else, Selector, numbered, ready, Report, with_last, without_last, renewed, as_they_are, due, reported_test, first_due, watch_due, with_answer, is_cut, is_free}

-- what a slot with no group does
pub data Activity : Type 0 where
  Running : (place : ℕ) → Activity
  Pausing : (place : ℕ) → Activity
  Finished : Activity

-- a slot with the aborts that it is inside, the outermost first; a slot that waits has its group, whose numbers begin at `lo`
mutual
  pub data Tree : Type 0 where
    Leaf : (watches : List Watch) → (activity : Activity) → Tree
    Waits : (watches : List Watch) → (at lo : ℕ) → (group : Group) → Tree

  pub data Group : Type 0 where
    no_more : Group
    member : Tree → Group → Group

abbrev pub size : Group → ℕ
size no_more = 0
size (member t ts) = size ts + 1

abbrev mutual
  -- a slot of the tree is ready
  pub has_ready : Tree → Bool
  has_ready (Leaf watches (Running place)) = true
  has_ready (Leaf watches (Pausing place)) = false
  has_ready (Leaf watches Finished) = false
  has_ready (Waits watches at lo group) = any_ready group

  pub any_ready : Group → Bool
  any_ready no_more = false
  any_ready (member t ts) = has_ready t || any_ready ts

abbrev pub has_ended : Tree → Bool
has_ended (Leaf watches (Running place)) = false
has_ended (Leaf watches (Pausing place)) = false
has_ended (Leaf watches Finished) = true
has_ended (Waits watches at lo group) = false

abbrev pub all_ended : Group → Bool
all_ended no_more = true
all_ended (member t ts) = has_ended t && all_ended ts

-- a slot goes on at the handler of its innermost fired abort, and loses that one and all inside it; else the tree is as handed in
abbrev pub relieved_tree : Tree → Option (List Watch × ℕ) → Tree
relieved_tree t None = t
relieved_tree t (Some to) = Leaf to.0 (Running to.1)

-- a slot that waits is looked at
abbrev pub settle : Tree → Tree
settle (Leaf watches activity) = Leaf watches activity
settle (Waits watches at lo group) =
    if any_ready group then Waits watches at lo group
    else if all_ended group then Leaf watches (Running (at + 1))
    else relieved_tree (Waits watches at lo group) (relief watches)

-- the state of a slot with no group
abbrev pub slot_of_activity : Activity → Slot
slot_of_activity (Running place) = Ready place
slot_of_activity (Pausing place) = Paused place
slot_of_activity Finished = Ended

abbrev mutual
  -- a slot of the tree of slot k is one of those that are selected
  pub is_in : Selector → ℕ → Tree → Bool
  is_in p k (Leaf watches activity) = p k (slot_of_activity activity) watches
  is_in p k (Waits watches at lo group) = p k (Waiting at lo (size group)) watches || is_among p lo group

  -- the same of a group whose numbers begin at k
  pub is_among : Selector → ℕ → Group → Bool
  is_among p k no_more = false
  is_among p k (member t ts) = is_in p k t || is_among p (k + 1) ts

abbrev mutual
  -- `f` is done at the first selected slot of the tree of slot k in depth-first order, and `g` at each slot above it, from the innermost on
  pub at_slot : Selector → (Tree → Tree) → (Tree → Tree) → ℕ → Tree → Tree
  at_slot p f g k (Leaf watches activity) = if p k (slot_of_activity activity) watches then f (Leaf watches activity) else Leaf watches activity
  at_slot p f g k (Waits watches at lo group) =
      if p k (Waiting at lo (size group)) watches then f (Waits watches at lo group)
      else if is_among p lo group then g (Waits watches at lo (at_member p f g lo group))
      else Waits watches at lo group

  pub at_member : Selector → (Tree → Tree) → (Tree → Tree) → ℕ → Group → Group
  at_member p f g k no_more = no_more
  at_member p f g k (member t ts) = if is_in p k t then member (at_slot p f g k t) ts else member t (at_member p f g (k + 1) ts)

abbrev mutual
  -- the tree of slot s in depth-first order, before more rows
  pub spelled : ℕ → ℕ → Tree → List SlotRow → List SlotRow
  spelled level s (Leaf watches activity) rows = row s level (slot_of_activity activity) watches ∷ rows
  spelled level s (Waits watches at lo group) rows = row s level (Waiting at lo (size group)) watches ∷ spelled_group (level + 1) lo group rows

  pub spelled_group : ℕ → ℕ → Group → List SlotRow → List SlotRow
  spelled_group level s no_more rows = rows
  spelled_group level s (member t ts) rows = spelled level s t (spelled_group level (s + 1) ts rows)

-- the moves of one slot
abbrev pub pause_at : ℕ → Tree → Tree
pause_at at (Leaf watches (Running place)) = relieved_tree (Leaf watches (Pausing at)) (relief watches)
pause_at at (Leaf watches (Pausing place)) = Leaf watches (Pausing place)
pause_at at (Leaf watches Finished) = Leaf watches Finished
pause_at at (Waits watches at' lo group) = Waits watches at' lo group

-- slot s pauses, and what is above it settles
abbrev pub paused : ℕ → ℕ → Tree → Tree
paused s at t = at_slot (numbered s) (pause_at at) settle 0 t

-- the tree that rows spell
abbrev pub append_group : Group → Group → Group
append_group no_more us = us
append_group (member t ts) us = member t (append_group ts us)

abbrev pub take_group : ℕ → Group → Group
take_group zero ts = no_more
take_group (suc n) no_more = no_more
take_group (suc n) (member t ts) = member t (take_group n ts)

abbrev pub drop_group : ℕ → Group → Group
drop_group zero ts = ts
drop_group (suc n) no_more = no_more
drop_group (suc n) (member t ts) = drop_group n ts

-- a row before what the rows after it spell: a waiting one takes so many of them as its group
abbrev pub grown : List Watch → Slot → Group → Group
grown watches Free ts = ts
grown watches (Ready place) ts = member (Leaf watches (Running place)) ts
grown watches (Paused place) ts = member (Leaf watches (Pausing place)) ts
grown watches (Waiting at lo count) ts = member (Waits watches at lo (take_group count ts)) (drop_group count ts)
grown watches Ended ts = member (Leaf watches Finished) ts

abbrev pub trees_of : List SlotRow → Group
trees_of [] = no_more
trees_of (r ∷ rows) = grown r.watches r.state (trees_of rows)

abbrev pub first_tree : Group → Tree
first_tree no_more = Leaf [] Finished
first_tree (member t ts) = t

abbrev pub tree_of : List SlotRow → Tree
tree_of rows = first_tree (trees_of rows)

abbrev pub finish_at : Tree → Tree
finish_at (Leaf watches (Running place)) = Leaf watches Finished
finish_at (Leaf watches (Pausing place)) = Leaf watches (Pausing place)
finish_at (Leaf watches Finished) = Leaf watches Finished
finish_at (Waits watches at lo group) = Waits watches at lo group

-- slot s ends, and what is above it settles
abbrev pub finished : ℕ → Tree → Tree
finished s t = at_slot (numbered s) finish_at settle 0 t

-- the first selected slot of the tree of slot k: its number, its state and its aborts
abbrev mutual
  pub report : Selector → ℕ → Tree → Option Report
  report p k (Leaf watches activity) = if p k (slot_of_activity activity) watches then Some (k, slot_of_activity activity, watches) else None
  report p k (Waits watches at lo group) = if p k (Waiting at lo (size group)) watches then Some (k, Waiting at lo (size group), watches) else report_among p lo group

  pub report_among : Selector → ℕ → Group → Option Report
  report_among p k no_more = None
  report_among p k (member t ts) = or_else (report p k t) (report_among p (k + 1) ts)

abbrev pub reported_state : Option Report → Slot
reported_state None = Free
reported_state (Some p) = p.1

abbrev pub reported_watches : Option Report → List Watch
reported_watches None = []
reported_watches (Some p) = p.2

-- the state of a slot; one that isn't in the tree is free
abbrev pub slot_of : ℕ → Tree → Slot
slot_of s t = reported_state (report (numbered s) 0 t)

abbrev pub watches_of : ℕ → Tree → List Watch
watches_of s t = reported_watches (report (numbered s) 0 t)

-- the rows are those of a tree
abbrev pub IsSpelled : List SlotRow → Type 0
IsSpelled rows = spelled 0 0 (tree_of rows) [] ≡ rows

abbrev pub reported_number : Option Report → Option ℕ
reported_number None = None
reported_number (Some p) = Some p.0

-- the first ready slot in depth-first order
abbrev pub next_job : Tree → Option ℕ
next_job t = reported_number (report ready 0 t)

abbrev pub one : Bool → ℕ
one b = if b then 1 else 0

abbrev mutual
  -- how many slots of the tree of slot k have the number q
  pub tally : ℕ → ℕ → Tree → ℕ
  tally q k (Leaf watches activity) = one (k == q)
  tally q k (Waits watches at lo group) = one (k == q) + tally_group q lo group

  pub tally_group : ℕ → ℕ → Group → ℕ
  tally_group q k no_more = 0
  tally_group q k (member t ts) = tally q k t + tally_group q (k + 1) ts

-- no number stands twice, and all are below 64
pub record IsSound (t : Tree) : Type 0 where
  pub once : (q : ℕ) → tally q 0 t ≤ 1
  pub below : (q : ℕ) → 64 ≤ q → tally q 0 t ≡ 0

-- the children of a fork
abbrev pub begun : List ℕ → Group
begun [] = no_more
begun (start ∷ starts) = member (Leaf [] (Running start)) (begun starts)

abbrev pub fork_at : ℕ → ℕ → List ℕ → Tree → Tree
fork_at at lo starts (Leaf watches (Running place)) = Waits watches at lo (begun starts)
fork_at at lo starts (Leaf watches (Pausing place)) = Leaf watches (Pausing place)
fork_at at lo starts (Leaf watches Finished) = Leaf watches Finished
fork_at at lo starts (Waits watches at' lo' group) = Waits watches at' lo' group

-- slot s waits for the slots from `lo` on, which begin
abbrev pub forked : ℕ → ℕ → ℕ → List ℕ → Tree → Tree
forked s at lo starts t = at_slot (numbered s) (fork_at at lo starts) (λ u. u) 0 t

-- a slot that is to begin isn't free
abbrev pub is_busy : ℕ → List ℕ → Tree → Bool
is_busy lo [] t = false
is_busy lo (start ∷ starts) t = not (is_free (slot_of lo t)) || is_busy (lo + 1) starts t

-- the rows are those of a tree in which no number stands twice
pub record IsRight (rows : List SlotRow) : Type 0 where
  pub spelled : IsSpelled rows
  pub sound : IsSound (tree_of rows)

-- a slot's aborts change
abbrev pub watches_at : (List Watch → List Watch) → Tree → Tree
watches_at h (Leaf watches activity) = Leaf (h watches) activity
watches_at h (Waits watches at lo group) = Waits (h watches) at lo group

-- slot s is inside one more abort
abbrev pub entered : ℕ → Watch → Tree → Tree
entered s l t = at_slot (numbered s) (watches_at (with_last l)) (λ u. u) 0 t

-- slot s leaves its innermost abort
abbrev pub left : ℕ → Tree → Tree
left s t = at_slot (numbered s) (watches_at without_last) (λ u. u) 0 t

abbrev mutual
  -- each slot's aborts change, and what each slot with no group does
  pub each_slot : (List Watch → List Watch) → (Activity → Activity) → Tree → Tree
  each_slot h d (Leaf watches activity) = Leaf (h watches) (d activity)
  each_slot h d (Waits watches at lo group) = Waits (h watches) at lo (each_member h d group)

  pub each_member : (List Watch → List Watch) → (Activity → Activity) → Group → Group
  each_member h d no_more = no_more
  each_member h d (member t ts) = member (each_slot h d t) (each_member h d ts)

-- every condition is due
abbrev pub tests_begun : Tree → Tree
tests_begun t = each_slot (map renewed) (λ x. x) t

abbrev pub wakes : Activity → Activity
wakes (Running place) = Running place
wakes (Pausing place) = Running (place + 1)
wakes Finished = Finished

-- each paused slot is ready one word on
abbrev pub all_woken : Tree → Tree
all_woken t = each_slot as_they_are wakes t

-- the slot and the place of the first entry whose condition is due, in depth-first order and from the outermost on
abbrev pub next_test : Tree → Option (ℕ × ℕ)
next_test t = reported_test (report due 0 t)

abbrev pub watches_in : Tree → List Watch
watches_in (Leaf watches activity) = watches
watches_in (Waits watches at lo group) = watches

abbrev pub answer_at : Bool → Tree → Tree
answer_at fired t =
    if is_cut fired (watches_in t) then Leaf (take (first_due (watches_in t)) (watches_in t)) (Running (watch_due (watches_in t)).entry.handler)
    else watches_at (with_answer fired) t

-- the next test is answered
abbrev pub test_answered : Bool → Tree → Tree
test_answered fired t = at_slot due (answer_at fired) (λ u. u) 0 t
