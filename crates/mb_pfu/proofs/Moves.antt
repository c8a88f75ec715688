-- The moves of a row are the moves of its tree.
use Rattle.std.proofs.Common.{◌≡◌, take, map, length, ℕ, ◌+◌, ◌<◌, Bool, true, false, ◌&&◌, if◌then◌else◌, List, [], ◌∷◌, Option, Some, None, refl, ap, ◌∙◌, arith}
use Rattle.std.proofs.Math.Bool.{or-false}
use Rattle.mb_pfu.specs.declared.parts.Watch.{Watch}
use Rattle.mb_pfu.specs.declared.parts.Slot.{Slot}
use Rattle.mb_pfu.specs.declared.parts.Slot.TheVariants.{Ready, Waiting}
use Rattle.mb_pfu.specs.Rows.{SlotRow, row, settle_row, relieved, relief, pause_row, finish_row, fork_row, started, stay, watches_row, answer_row, watch_due, first_due, with_answer, is_cut, each_row, renewed, as_it_is, as_they_are, woken}
use Rattle.mb_pfu.specs.Tree.{Tree, Group, Leaf, Waits, no_more, member, Running, Pausing, Finished, size, spelled, spelled_group, any_ready, all_ended, settle, relieved_tree, pause_at, finish_at, fork_at, begun, watches_at, answer_at, Activity, slot_of_activity, each_slot, each_member, tests_begun, all_woken, wakes}
use Rattle.mb_pfu.proofs.Groups.{stops-after, stops-runs, stops-ended, after-group, runs-group, ended-group}
use Rattle.mb_pfu.proofs.Climbs.{Acts}

and-true : (b : Bool) → (b && true) ≡ b
and-true true = refl
and-true false = refl

-- a row that goes on at a handler, or its tree
relieved-spelled : (level s : ℕ) (watches : List Watch) (t : Tree) (r : SlotRow) (rows : List SlotRow) (to : Option (List Watch × ℕ)) →
    r.slot ≡ s → r.level ≡ level → relieved r rows (spelled level s t rows) to ≡ spelled level s (relieved_tree t to) rows
relieved-spelled level s watches t r rows None e e' = refl
relieved-spelled level s watches t r rows (Some to) e e' = rw (e, e') refl

settled-by : (level s at lo : ℕ) (watches : List Watch) (group : Group) (rows : List SlotRow) (runs ended : Bool) →
    (if runs then row s level (Waiting at lo (size group)) watches ∷ spelled_group (level + 1) lo group rows
    else if ended then row s level (Ready (at + 1)) watches ∷ rows
    else relieved (row s level (Waiting at lo (size group)) watches) rows (row s level (Waiting at lo (size group)) watches ∷ spelled_group (level + 1) lo group rows) (relief watches))
    ≡ spelled level s (if runs then Waits watches at lo group else if ended then Leaf watches (Running (at + 1)) else relieved_tree (Waits watches at lo group) (relief watches)) rows
settled-by level s at lo watches group rows true ended = refl
settled-by level s at lo watches group rows false true = refl
settled-by level s at lo watches group rows false false =
    relieved-spelled level s watches (Waits watches at lo group) (row s level (Waiting at lo (size group)) watches) rows (relief watches) refl refl

pub acts-settle : Acts settle_row settle
acts-settle level s (Leaf watches (Running place)) rows h = refl
acts-settle level s (Leaf watches (Pausing place)) rows h = refl
acts-settle level s (Leaf watches Finished) rows h = refl
acts-settle level s (Waits watches at lo group) rows h =
    let low : level < level + 1 = omega arith in
    rw (
      runs-group level (level + 1) lo group rows low,
      stops-runs level rows h,
      or-false (any_ready group),
      ended-group level (level + 1) lo group rows low,
      stops-ended level rows h,
      and-true (all_ended group),
      after-group level (level + 1) lo group rows low,
      stops-after level rows h,
    )
    (settled-by level s at lo watches group rows (any_ready group) (all_ended group))

pub acts-pause : (at : ℕ) → Acts (pause_row at) (pause_at at)
acts-pause at level s (Leaf watches (Running place)) rows h = relieved-spelled level s watches (Leaf watches (Pausing at)) (row s level (Ready place) watches) rows (relief watches) refl refl
acts-pause at level s (Leaf watches (Pausing place)) rows h = refl
acts-pause at level s (Leaf watches Finished) rows h = refl
acts-pause at level s (Waits watches at' lo group) rows h = refl

pub acts-finish : Acts finish_row finish_at
acts-finish level s (Leaf watches (Running place)) rows h = refl
acts-finish level s (Leaf watches (Pausing place)) rows h = refl
acts-finish level s (Leaf watches Finished) rows h = refl
acts-finish level s (Waits watches at lo group) rows h = refl

size-begun : (starts : List ℕ) → size (begun starts) ≡ length starts
size-begun [] = refl
size-begun (start ∷ starts) = omega (arith, size-begun starts)

started-spelled : (level lo : ℕ) (starts : List ℕ) (rows : List SlotRow) → started level lo starts rows ≡ spelled_group level lo (begun starts) rows
started-spelled level lo [] rows = refl
started-spelled level lo (start ∷ starts) rows = ap (λ (rs : List SlotRow). row lo level (Ready start) [] ∷ rs) (started-spelled level (lo + 1) starts rows)

pub acts-fork : (at lo : ℕ) (starts : List ℕ) → Acts (fork_row at lo starts) (fork_at at lo starts)
acts-fork at lo starts level s (Leaf watches (Running place)) rows h = rw (size-begun starts, started-spelled (level + 1) lo starts rows) refl
acts-fork at lo starts level s (Leaf watches (Pausing place)) rows h = refl
acts-fork at lo starts level s (Leaf watches Finished) rows h = refl
acts-fork at lo starts level s (Waits watches at' lo' group) rows h = refl

pub acts-stay : Acts stay (λ t. t)
acts-stay level s (Leaf watches activity) rows h = refl
acts-stay level s (Waits watches at lo group) rows h = refl

pub acts-watches : (h : List Watch → List Watch) → Acts (watches_row h) (watches_at h)
acts-watches h level s (Leaf watches activity) rows e = refl
acts-watches h level s (Waits watches at lo group) rows e = refl

answer-leaf : (level s : ℕ) (watches : List Watch) (activity : Activity) (rows : List SlotRow) (fired b : Bool) →
    (if b then row s level (Ready (watch_due watches).entry.handler) (take (first_due watches) watches) ∷ rows else row s level (slot_of_activity activity) (with_answer fired watches) ∷ rows)
    ≡ spelled level s (if b then Leaf (take (first_due watches) watches) (Running (watch_due watches).entry.handler) else Leaf (with_answer fired watches) activity) rows
answer-leaf level s watches activity rows fired true = refl
answer-leaf level s watches activity rows fired false = refl

answer-waits : (level s at lo : ℕ) (watches : List Watch) (group : Group) (rows : List SlotRow) (fired b : Bool) →
    (if b then row s level (Ready (watch_due watches).entry.handler) (take (first_due watches) watches) ∷ rows
    else row s level (Waiting at lo (size group)) (with_answer fired watches) ∷ spelled_group (level + 1) lo group rows)
    ≡ spelled level s (if b then Leaf (take (first_due watches) watches) (Running (watch_due watches).entry.handler) else Waits (with_answer fired watches) at lo group) rows
answer-waits level s at lo watches group rows fired true = refl
answer-waits level s at lo watches group rows fired false = refl

pub acts-answer : (fired : Bool) → Acts (answer_row fired) (answer_at fired)
acts-answer fired level s (Leaf watches activity) rows h = rw (stops-after level rows h) (answer-leaf level s watches activity rows fired (is_cut fired watches))
acts-answer fired level s (Waits watches at lo group) rows h =
    rw (after-group level (level + 1) lo group rows (omega arith), stops-after level rows h) (answer-waits level s at lo watches group rows fired (is_cut fired watches))

-- a change of each row
size-each : (h : List Watch → List Watch) (d : Activity → Activity) (ts : Group) → size (each_member h d ts) ≡ size ts
size-each h d no_more = refl
size-each h d (member t ts) = ap (λ n. n + 1) (size-each h d ts)

mutual
  pub each-spelled : (h : List Watch → List Watch) (d : Activity → Activity) (d' : Slot → Slot) → ((x : Activity) → d' (slot_of_activity x) ≡ slot_of_activity (d x)) → ((at lo n : ℕ) → d' (Waiting at lo n) ≡ Waiting at lo n) →
      (level k : ℕ) (t : Tree) (rows : List SlotRow) → map (each_row h d') (spelled level k t rows) ≡ spelled level k (each_slot h d t) (map (each_row h d') rows)
  each-spelled h d d' same still level k (Leaf watches activity) rows = rw (same activity) refl
  each-spelled h d d' same still level k (Waits watches at lo group) rows = rw (still at lo (size group), each-spelled_group h d d' same still (level + 1) lo group rows, size-each h d group) refl

  each-spelled_group : (h : List Watch → List Watch) (d : Activity → Activity) (d' : Slot → Slot) → ((x : Activity) → d' (slot_of_activity x) ≡ slot_of_activity (d x)) → ((at lo n : ℕ) → d' (Waiting at lo n) ≡ Waiting at lo n) →
      (level k : ℕ) (ts : Group) (rows : List SlotRow) → map (each_row h d') (spelled_group level k ts rows) ≡ spelled_group level k (each_member h d ts) (map (each_row h d') rows)
  each-spelled_group h d d' same still level k no_more rows = refl
  each-spelled_group h d d' same still level k (member t ts) rows =
      each-spelled h d d' same still level k t (spelled_group level (k + 1) ts rows) ∙ ap (λ (rs : List SlotRow). spelled level k (each_slot h d t) rs) (each-spelled_group h d d' same still level (k + 1) ts rows)

same-wakes : (x : Activity) → woken (slot_of_activity x) ≡ slot_of_activity (wakes x)
same-wakes (Running place) = refl
same-wakes (Pausing place) = refl
same-wakes Finished = refl

pub begun-spelled : (t : Tree) → map (each_row (map renewed) as_it_is) (spelled 0 0 t []) ≡ spelled 0 0 (tests_begun t) []
begun-spelled t = each-spelled (map renewed) (λ x. x) as_it_is (λ x. refl) (λ at lo n. refl) 0 0 t []

pub woken-spelled : (t : Tree) → map (each_row as_they_are woken) (spelled 0 0 t []) ≡ spelled 0 0 (all_woken t) []
woken-spelled t = each-spelled as_they_are wakes woken same-wakes (λ at lo n. refl) 0 0 t []
