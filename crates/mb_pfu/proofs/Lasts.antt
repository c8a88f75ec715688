-- The last link and the last counter; and the slot that enters or leaves an abort stays ready.
use Rattle.std.proofs.Common.{◌≡◌, ℕ, zero, suc, ◌-◌, ◌++◌, ◌≤◌, IsTrue, true, false, List, [], ◌∷◌, Some, Ok, refl, ap, ◌∙◌, arith}
use Rattle.mb_pfu.specs.declared.parts.Watch.{Watch}
use Rattle.mb_pfu.specs.Rows.{is_ready}
use Rattle.mb_pfu.specs.Tree.{Tree, slot_of, entered, left}
use Rattle.mb_pfu.specs.Unit.{State}
use Rattle.mb_pfu.specs.Calls as call
use Rattle.mb_pfu.specs.Calls.{last_of, last_from, on_last, counted}
use Rattle.mb_pfu.proofs.Keeps.{enter-states, leave-states}

last_of-push : (xs : List ℕ) (x : ℕ) → last_of (xs ++ x ∷ []) ≡ Some (xs, x)
last_of-push [] x = refl
last_of-push (y ∷ xs) x = ap (λ o. Some (last_from y o)) (last_of-push xs x)

pub ret_gave : (u : State) (before : List ℕ) (back : ℕ) → u.links ≡ before ++ back ∷ [] → call.ret u ≡ Ok (record u { links = before }, back)
ret_gave u before back h = ap (λ links. on_last (last_of links) (λ some last. (record u { links = some }, last))) h ∙ ap (λ o. on_last o (λ some last. (record u { links = some }, last))) (last_of-push before back)

next_gave : (u : State) (before : List ℕ) (turns : ℕ) → u.counters ≡ before ++ turns ∷ [] → call.loop_next u ≡ Ok (counted u before turns)
next_gave u before turns h = ap (λ counters. on_last (last_of counters) (counted u)) h ∙ ap (λ o. on_last o (counted u)) (last_of-push before turns)

pub next_is_over : (u : State) (before : List ℕ) → u.counters ≡ before ++ 0 ∷ [] → call.loop_next u ≡ Ok (record u { counters = before }, false)
next_is_over u before h = next_gave u before 0 h

pub next_goes_on : (u : State) (before : List ℕ) (turns : ℕ) → u.counters ≡ before ++ turns ∷ [] → 1 ≤ turns → call.loop_next u ≡ Ok (record u { counters = before ++ (turns - 1) ∷ [] }, true)
next_goes_on u before zero h least = absurd (omega arith)
next_goes_on u before (suc turns) h least =
    let e : suc turns - 1 ≡ turns = omega arith in
    rw e (next_gave u before (suc turns) h)

pub drop_gave : (u : State) (before : List ℕ) (turns : ℕ) → u.counters ≡ before ++ turns ∷ [] → call.drop_loop u ≡ Ok (record u { counters = before })
drop_gave u before turns h = ap (λ counters. on_last (last_of counters) (λ some last. record u { counters = some })) h ∙ ap (λ o. on_last o (λ some last. record u { counters = some })) (last_of-push before turns)

pub enter_ready : (s : ℕ) (l : Watch) (t : Tree) → IsTrue (is_ready (slot_of s t)) → IsTrue (is_ready (slot_of s (entered s l t)))
enter_ready s l t h = ap is_ready (enter-states s s l t) ∙ h

pub leave_ready : (s : ℕ) (t : Tree) → IsTrue (is_ready (slot_of s t)) → IsTrue (is_ready (slot_of s (left s t)))
leave_ready s t h = ap is_ready (leave-states s s t) ∙ h
