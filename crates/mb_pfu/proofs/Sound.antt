-- No number stands twice.
use Rattle.std.proofs.Common.{◌≡◌, not, take, ℕ, ◌+◌, ◌<◌, ◌≤◌, ◌==◌, Bool, true, false, ◌||◌, ◌≢◌, if◌then◌else◌, List, [], ◌∷◌, Option, Some, None, refl, sym, ap, ◌∙◌, arith, length, map, eqb, is_some}
use Rattle.std.specs.List.{IsDistinct, AllByRecursion, list_any}
use Rattle.std.proofs.lemmas.List.{length-map}
use Rattle.std.proofs.lemmas.Map.Steps.{length-le_from_distinct_below}
use Rattle.std.proofs.lemmas.Bool.Decides.{nat_tests}
use Rattle.mb_pfu.specs.declared.parts.Watch.{Watch}
use Rattle.mb_pfu.specs.declared.parts.Slot.TheVariants.{Waiting}
use Rattle.mb_pfu.specs.Rows.{SlotRow, is_free, count_in, started, Selector, numbered, Report, relief, or_else, due, is_cut, first_due, watch_due, with_answer, with_last, without_last, renewed, as_they_are}
use Rattle.mb_pfu.specs.Tree.{Tree, Group, Leaf, Waits, no_more, member, Activity, Running, Pausing, Finished, size, slot_of_activity, spelled, spelled_group, is_in, is_among, at_slot, at_member, tally, tally_group, one, begun, settle, pause_at, finish_at, fork_at, relieved_tree, any_ready, all_ended, report, report_among, is_busy, slot_of, IsSound, paused, finished, watches_at, answer_at, test_answered, each_slot, each_member, entered, left, forked, tests_begun, all_woken, wakes}
use Rattle.mb_pfu.specs.Unit.{IsBelow}
use Rattle.mb_pfu.proofs.Cases.{split, or-left-false, or-right-false}
use Rattle.mb_pfu.proofs.Frees.{taken-there}

abbrev pub numbers : List SlotRow → List ℕ
numbers rows = map (λ r. r.slot) rows

-- the count in rows is the tree's
mutual
  pub tally-spelled : (q level k : ℕ) (t : Tree) (rows : List SlotRow) → count_in q (spelled level k t rows) ≡ tally q k t + count_in q rows
  tally-spelled q level k (Leaf watches activity) rows = refl
  tally-spelled q level k (Waits watches at lo group) rows = omega (arith, tally-spelled_group q (level + 1) lo group rows)

  pub tally-spelled_group : (q level k : ℕ) (ts : Group) (rows : List SlotRow) → count_in q (spelled_group level k ts rows) ≡ tally_group q k ts + count_in q rows
  tally-spelled_group q level k no_more rows = omega arith
  tally-spelled_group q level k (member t ts) rows = omega (arith, tally-spelled q level k t (spelled_group level (k + 1) ts rows), tally-spelled_group q level (k + 1) ts rows)

other : (x y n : ℕ) → (if y == x then 1 else 0) + n ≡ 0 → eqb x y ≡ false
other x y n h = grind (arith, nat_tests)

all_other : (x : ℕ) (rows : List SlotRow) → count_in x rows ≡ 0 → AllByRecursion (λ y. eqb x y ≡ false) (numbers rows)
all_other x [] h = tt
all_other x (r ∷ rows) h = (other x r.slot (count_in x rows) h, all_other x rows (omega arith))

own : (x n : ℕ) → (if x == x then 1 else 0) + n ≤ 1 → n ≡ 0
own x n h = grind (arith, nat_tests)

distinct : (rows : List SlotRow) → ((q : ℕ) → count_in q rows ≤ 1) → IsDistinct eqb (numbers rows)
unfolding IsDistinct
distinct [] h = tt
distinct (r ∷ rows) h = (all_other r.slot rows (own r.slot (count_in r.slot rows) (h r.slot)), distinct rows (λ q. omega (arith, h q)))

counted-or : (a b : Bool) (q x n : ℕ) → eqb q x ≡ a → (a || b) ≡ true → (b ≡ true → 1 ≤ n) → 1 ≤ (if x == q then 1 else 0) + n
counted-or true b q x n e h more = grind (arith, nat_tests)
counted-or false b q x n e h more = omega (arith, more h)

counted : (q : ℕ) (rows : List SlotRow) → list_any (eqb q) (numbers rows) ≡ true → 1 ≤ count_in q rows
counted q [] h = cc
counted q (r ∷ rows) h = counted-or (eqb q r.slot) (list_any (eqb q) (numbers rows)) q r.slot (count_in q rows) refl h (counted q rows)

below-by : (q n : ℕ) → 1 ≤ n → (64 ≤ q → n ≡ 0) → q < 64
below-by q n h e = grind arith

pub few : (rows : List SlotRow) → ((q : ℕ) → count_in q rows ≤ 1) → ((q : ℕ) → 64 ≤ q → count_in q rows ≡ 0) → length rows ≤ 64
few rows once below =
    let within : length (numbers rows) ≤ 64 = length-le_from_distinct_below (numbers rows) 64 (distinct rows once) (λ q h. below-by q (count_in q rows) (counted q rows h) (below q)) in
    rw length-map at within

-- a change at one slot adds at most what it adds there
abbrev pub Adds : ℕ → ℕ → (Tree → Tree) → Type 0
Adds q d f = (k : ℕ) (t : Tree) → tally q k (f t) ≤ tally q k t + d

mutual
  pub tally-at : (q d : ℕ) (p : Selector) (f g : Tree → Tree) → Adds q d f → Adds q 0 g → (k : ℕ) (t : Tree) → tally q k (at_slot p f g k t) ≤ tally q k t + d
  tally-at q d p f g adds adds' k (Leaf watches activity) = split (p k (slot_of_activity activity) watches) (λ e. rw e (adds k (Leaf watches activity))) (λ e. rw e (omega arith))
  tally-at q d p f g adds adds' k (Waits watches at lo group) =
      split (p k (Waiting at lo (size group)) watches)
      (λ e. rw e (adds k (Waits watches at lo group)))
      (λ e. split (is_among p lo group)
      (λ e'. rw (e, e') (omega (arith, adds' k (Waits watches at lo (at_member p f g lo group)), tally-at_member q d p f g adds adds' lo group)))
      (λ e'. rw (e, e') (omega arith)))

  tally-at_member : (q d : ℕ) (p : Selector) (f g : Tree → Tree) → Adds q d f → Adds q 0 g → (k : ℕ) (ts : Group) → tally_group q k (at_member p f g k ts) ≤ tally_group q k ts + d
  tally-at_member q d p f g adds adds' k no_more = omega arith
  tally-at_member q d p f g adds adds' k (member t ts) =
      split (is_in p k t)
      (λ e. rw e (omega (arith, tally-at q d p f g adds adds' k t)))
      (λ e. rw e (omega (arith, tally-at_member q d p f g adds adds' (k + 1) ts)))

relieved-adds : (q k : ℕ) (watches : List Watch) (t : Tree) (to : Option (List Watch × ℕ)) → one (k == q) ≤ tally q k t → tally q k (relieved_tree t to) ≤ tally q k t
relieved-adds q k watches t None h = omega arith
relieved-adds q k watches t (Some to) h = h

settle-by : (q k : ℕ) (watches : List Watch) (at lo : ℕ) (group : Group) (runs ended : Bool) →
    tally q k (if runs then Waits watches at lo group else if ended then Leaf watches (Running (at + 1)) else relieved_tree (Waits watches at lo group) (relief watches)) ≤ one (k == q) + tally_group q lo group
settle-by q k watches at lo group true ended = omega arith
settle-by q k watches at lo group false true = omega arith
settle-by q k watches at lo group false false = relieved-adds q k watches (Waits watches at lo group) (relief watches) (omega arith)

pub settle-adds : (q : ℕ) → Adds q 0 settle
settle-adds q k (Leaf watches activity) = omega arith
settle-adds q k (Waits watches at lo group) = omega (arith, settle-by q k watches at lo group (any_ready group) (all_ended group))

pub pause-adds : (q at : ℕ) → Adds q 0 (pause_at at)
pause-adds q at k (Leaf watches (Running place)) = omega (arith, relieved-adds q k watches (Leaf watches (Pausing at)) (relief watches) (omega arith))
pause-adds q at k (Leaf watches (Pausing place)) = omega arith
pause-adds q at k (Leaf watches Finished) = omega arith
pause-adds q at k (Waits watches at' lo group) = omega arith

pub finish-adds : (q : ℕ) → Adds q 0 finish_at
finish-adds q k (Leaf watches (Running place)) = omega arith
finish-adds q k (Leaf watches (Pausing place)) = omega arith
finish-adds q k (Leaf watches Finished) = omega arith
finish-adds q k (Waits watches at lo group) = omega arith

pub stay-adds : (q : ℕ) → Adds q 0 (λ t. t)
stay-adds q k t = omega arith

pub fork-adds : (q at lo : ℕ) (starts : List ℕ) → Adds q (tally_group q lo (begun starts)) (fork_at at lo starts)
fork-adds q at lo starts k (Leaf watches (Running place)) = omega arith
fork-adds q at lo starts k (Leaf watches (Pausing place)) = omega arith
fork-adds q at lo starts k (Leaf watches Finished) = omega arith
fork-adds q at lo starts k (Waits watches at' lo' group) = omega arith

-- a move that adds nothing
pub sound-at : (p : Selector) (f g : Tree → Tree) → ((q : ℕ) → Adds q 0 f) → ((q : ℕ) → Adds q 0 g) → (t : Tree) → IsSound t → IsSound (at_slot p f g 0 t)
sound-at p f g adds adds' t s = record {
  once = λ q. omega (arith, tally-at q 0 p f g (adds q) (adds' q) 0 t, s.once q);
  below = λ q h. omega (arith, tally-at q 0 p f g (adds q) (adds' q) 0 t, s.below q h);
}

-- the children's numbers
apart : (x q : ℕ) → x ≢ q → one (x == q) ≡ 0
apart x q h = grind (arith, nat_tests)

begun-by : (q lo n : ℕ) → n ≤ 1 → (q < lo + 1 → n ≡ 0) → one (lo == q) + n ≤ 1
begun-by q lo n h e = grind (arith, nat_tests)

before-begun : (q lo : ℕ) (starts : List ℕ) → q < lo → tally_group q lo (begun starts) ≡ 0
before-begun q lo [] h = refl
before-begun q lo (start ∷ starts) h = omega (arith, before-begun q (lo + 1) starts (omega arith), apart lo q (omega arith))

pub begun-once : (q lo : ℕ) (starts : List ℕ) → tally_group q lo (begun starts) ≤ 1
begun-once q lo [] = omega arith
begun-once q lo (start ∷ starts) = begun-by q lo (tally_group q (lo + 1) (begun starts)) (begun-once q (lo + 1) starts) (λ h. before-begun q (lo + 1) starts h)

pub begun-past : (q lo : ℕ) (starts : List ℕ) → lo + length starts ≤ q → tally_group q lo (begun starts) ≡ 0
begun-past q lo [] h = refl
begun-past q lo (start ∷ starts) h = omega (arith, begun-past q (lo + 1) starts (omega arith), apart lo q (omega arith))

unreported-leaf : (b : Bool) (x : Report) → is_some (if b then Some x else None) ≡ false → one b ≡ 0
unreported-leaf true x h = cc
unreported-leaf false x h = refl

unreported-waits : (b : Bool) (x : Report) (r : Option Report) (n : ℕ) → (is_some r ≡ false → n ≡ 0) → is_some (if b then Some x else r) ≡ false → one b + n ≡ 0
unreported-waits true x r n more h = cc
unreported-waits false x r n more h = omega (arith, more h)

unreported-both : (a b : Option Report) (m n : ℕ) → (is_some a ≡ false → m ≡ 0) → (is_some b ≡ false → n ≡ 0) → is_some (or_else a b) ≡ false → m + n ≡ 0
unreported-both None b m n first more h = omega (arith, first refl, more h)
unreported-both (Some a) b m n first more h = cc

-- a slot that isn't reported isn't there
mutual
  unreported : (q k : ℕ) (t : Tree) → is_some (report (numbered q) k t) ≡ false → tally q k t ≡ 0
  unreported q k (Leaf watches activity) h = unreported-leaf (k == q) _ h
  unreported q k (Waits watches at lo group) h = unreported-waits (k == q) _ (report_among (numbered q) lo group) (tally_group q lo group) (unreported-group q lo group) h

  unreported-group : (q k : ℕ) (ts : Group) → is_some (report_among (numbered q) k ts) ≡ false → tally_group q k ts ≡ 0
  unreported-group q k no_more h = refl
  unreported-group q k (member t ts) h = unreported-both (report (numbered q) k t) (report_among (numbered q) (k + 1) ts) (tally q k t) (tally_group q (k + 1) ts) (unreported q k t) (unreported-group q (k + 1) ts) h

fit-by : (x q m n : ℕ) → m ≤ 1 → (x ≡ q → m ≡ 0) → n + m ≤ 1 → (q < x + 1 → n ≡ 0) → m + (one (x == q) + n) ≤ 1
fit-by x q m n h free more before = grind (arith, nat_tests)

-- no child is there before the fork
pub fits : (q lo : ℕ) (starts : List ℕ) (t : Tree) → tally q 0 t ≤ 1 → is_busy lo starts t ≡ false → tally q 0 t + tally_group q lo (begun starts) ≤ 1
fits q lo [] t once h = omega arith
fits q lo (start ∷ starts) t once h =
    let free : is_some (report (numbered lo) 0 t) ≡ false = taken-there lo t ∙ or-left-false (not (is_free (slot_of lo t))) (is_busy (lo + 1) starts t) h in
    let more : tally q 0 t + tally_group q (lo + 1) (begun starts) ≤ 1 = fits q (lo + 1) starts t once (or-right-false (not (is_free (slot_of lo t))) (is_busy (lo + 1) starts t) h) in
    let gone : lo ≡ q → tally q 0 t ≡ 0 = λ e. ap (λ n. tally n 0 t) (sym e) ∙ unreported lo 0 t free in
    let early : q < lo + 1 → tally_group q (lo + 1) (begun starts) ≡ 0 = λ e. before-begun q (lo + 1) starts e in
    fit-by lo q (tally q 0 t) (tally_group q (lo + 1) (begun starts)) once gone (omega arith) early

-- a fork keeps the numbers apart
pub sound-fork : (s at lo : ℕ) (starts : List ℕ) (t : Tree) → IsSound t → is_busy lo starts t ≡ false → lo + length starts ≤ 64 → IsSound (at_slot (numbered s) (fork_at at lo starts) (λ u. u) 0 t)
sound-fork s at lo starts t sound free within = record {
  once = λ q. omega (arith, tally-at q (tally_group q lo (begun starts)) (numbered s) (fork_at at lo starts) (λ u. u) (fork-adds q at lo starts) (stay-adds q) 0 t, fits q lo starts t (sound.once q) free);
  below = λ q h. omega (arith, tally-at q (tally_group q lo (begun starts)) (numbered s) (fork_at at lo starts) (λ u. u) (fork-adds q at lo starts) (stay-adds q) 0 t, sound.below q h, begun-past q lo starts (omega arith));
}

count-started : (q level lo : ℕ) (starts : List ℕ) (rows : List SlotRow) → count_in q (started level lo starts rows) ≡ tally_group q lo (begun starts) + count_in q rows
count-started q level lo [] rows = omega arith
count-started q level lo (start ∷ starts) rows = omega (arith, count-started q level (lo + 1) starts rows)

length-started : (level lo : ℕ) (starts : List ℕ) (rows : List SlotRow) → length (started level lo starts rows) ≡ length starts + length rows
length-started level lo [] rows = omega arith
length-started level lo (start ∷ starts) rows = omega (arith, length-started level (lo + 1) starts rows)

-- there is room for the children
pub room : (lo : ℕ) (starts : List ℕ) (t : Tree) (rows : List SlotRow) → rows ≡ spelled 0 0 t [] → IsSound t → is_busy lo starts t ≡ false → lo + length starts ≤ 64 → length rows + length starts ≤ 64
room lo starts t rows e sound free within =
    let count : (q : ℕ) → count_in q rows ≡ tally q 0 t = λ q. omega (arith, ap (count_in q) e, tally-spelled q 0 0 t []) in
    let all : length (started 0 lo starts rows) ≤ 64 =
    few (started 0 lo starts rows)
    (λ q. omega (arith, count-started q 0 lo starts rows, count q, fits q lo starts t (sound.once q) free))
    (λ q h. omega (arith, count-started q 0 lo starts rows, count q, sound.below q h, begun-past q lo starts (omega arith))) in
    omega (arith, all, length-started 0 lo starts rows)

-- the moves keep the numbers apart
pub sound-pause : (s at : ℕ) (t : Tree) → IsSound t → IsSound (paused s at t)
sound-pause s at t h = sound-at (numbered s) (pause_at at) settle (λ q. pause-adds q at) settle-adds t h

pub sound-finish : (s : ℕ) (t : Tree) → IsSound t → IsSound (finished s t)
sound-finish s t h = sound-at (numbered s) finish_at settle finish-adds settle-adds t h

pub watches-adds : (h : List Watch → List Watch) (q : ℕ) → Adds q 0 (watches_at h)
watches-adds h q k (Leaf watches activity) = omega arith
watches-adds h q k (Waits watches at lo group) = omega arith

pub sound-watches : (p : Selector) (h : List Watch → List Watch) (t : Tree) → IsSound t → IsSound (at_slot p (watches_at h) (λ u. u) 0 t)
sound-watches p h t s = sound-at p (watches_at h) (λ u. u) (watches-adds h) stay-adds t s

answer-tally : (b : Bool) (q k : ℕ) (cut : Tree) (t u : Tree) → tally q k cut ≤ tally q k u → tally q k t ≡ tally q k u → tally q k (if b then cut else t) ≤ tally q k u
answer-tally true q k cut t u h e = h
answer-tally false q k cut t u h e = omega arith

pub answer-adds : (fired : Bool) (q : ℕ) → Adds q 0 (answer_at fired)
answer-adds fired q k (Leaf watches activity) =
    omega (arith, answer-tally (is_cut fired watches) q k (Leaf (take (first_due watches) watches) (Running (watch_due watches).entry.handler)) (Leaf (with_answer fired watches) activity) (Leaf watches activity) (omega arith) refl)
answer-adds fired q k (Waits watches at lo group) =
    omega (arith, answer-tally (is_cut fired watches) q k (Leaf (take (first_due watches) watches) (Running (watch_due watches).entry.handler)) (Waits (with_answer fired watches) at lo group) (Waits watches at lo group) (omega arith) refl)

pub sound-answer : (fired : Bool) (t : Tree) → IsSound t → IsSound (test_answered fired t)
sound-answer fired t s = sound-at due (answer_at fired) (λ u. u) (answer-adds fired) stay-adds t s

mutual
  tally-each : (h : List Watch → List Watch) (d : Activity → Activity) (q k : ℕ) (t : Tree) → tally q k (each_slot h d t) ≡ tally q k t
  tally-each h d q k (Leaf watches activity) = refl
  tally-each h d q k (Waits watches at lo group) = ap (λ n. one (k == q) + n) (tally-each_member h d q lo group)

  tally-each_member : (h : List Watch → List Watch) (d : Activity → Activity) (q k : ℕ) (ts : Group) → tally_group q k (each_member h d ts) ≡ tally_group q k ts
  tally-each_member h d q k no_more = refl
  tally-each_member h d q k (member t ts) = omega (arith, tally-each h d q k t, tally-each_member h d q (k + 1) ts)

pub sound-each : (h : List Watch → List Watch) (d : Activity → Activity) (t : Tree) → IsSound t → IsSound (each_slot h d t)
sound-each h d t s = record {
  once = λ q. omega (arith, tally-each h d q 0 t, s.once q);
  below = λ q e. omega (arith, tally-each h d q 0 t, s.below q e);
}

-- the moves keep all slots below a number
begun-entry : (n q place : ℕ) → 1 ≤ n → n ≤ q → tally q 0 (Leaf [] (Running place)) ≡ 0
begun-entry n q place h e = apart 0 q (omega arith)

pub below-begin : (n place : ℕ) → 1 ≤ n → IsBelow n (Leaf [] (Running place))
below-begin n place h = λ q e. begun-entry n q place h e

below-at : (n : ℕ) (p : Selector) (f g : Tree → Tree) → ((q : ℕ) → Adds q 0 f) → ((q : ℕ) → Adds q 0 g) → (t : Tree) → IsBelow n t → IsBelow n (at_slot p f g 0 t)
below-at n p f g adds adds' t h = λ q e. omega (arith, tally-at q 0 p f g (adds q) (adds' q) 0 t, h q e)

pub below-pause : (n s at : ℕ) (t : Tree) → IsBelow n t → IsBelow n (paused s at t)
below-pause n s at t h = below-at n (numbered s) (pause_at at) settle (λ q. pause-adds q at) settle-adds t h

pub below-finish : (n s : ℕ) (t : Tree) → IsBelow n t → IsBelow n (finished s t)
below-finish n s t h = below-at n (numbered s) finish_at settle finish-adds settle-adds t h

pub below-enter : (n s : ℕ) (l : Watch) (t : Tree) → IsBelow n t → IsBelow n (entered s l t)
below-enter n s l t h = below-at n (numbered s) (watches_at (with_last l)) (λ u. u) (watches-adds (with_last l)) stay-adds t h

pub below-leave : (n s : ℕ) (t : Tree) → IsBelow n t → IsBelow n (left s t)
below-leave n s t h = below-at n (numbered s) (watches_at without_last) (λ u. u) (watches-adds without_last) stay-adds t h

pub below-answer : (n : ℕ) (fired : Bool) (t : Tree) → IsBelow n t → IsBelow n (test_answered fired t)
below-answer n fired t h = below-at n due (answer_at fired) (λ u. u) (answer-adds fired) stay-adds t h

pub below-tests : (n : ℕ) (t : Tree) → IsBelow n t → IsBelow n (tests_begun t)
below-tests n t h = λ q e. omega (arith, tally-each (map renewed) (λ x. x) q 0 t, h q e)

pub below-wake : (n : ℕ) (t : Tree) → IsBelow n t → IsBelow n (all_woken t)
below-wake n t h = λ q e. omega (arith, tally-each as_they_are wakes q 0 t, h q e)

pub below-fork : (n s at lo : ℕ) (starts : List ℕ) (t : Tree) → IsBelow n t → lo + length starts ≤ n → IsBelow n (forked s at lo starts t)
below-fork n s at lo starts t h within = λ q e.
    omega (arith, tally-at q (tally_group q lo (begun starts)) (numbered s) (fork_at at lo starts) (λ u. u) (fork-adds q at lo starts) (stay-adds q) 0 t, h q e, begun-past q lo starts (omega arith))

pub below-wait : (n s at lo : ℕ) (starts : List ℕ) (t u : Tree) (b : Bool) → u ≡ (if b then forked s at lo starts t else t) → IsBelow n t → lo + length starts ≤ n → IsBelow n u
below-wait n s at lo starts t u true e h within = rw e (below-fork n s at lo starts t h within)
below-wait n s at lo starts t u false e h within = rw e h
