-- The shapes of statements and of their nodes are alike: which can end in the tick of their start, and how deep loops stand.
use Rattle.std.proofs.Common.{◌≡◌, ℕ, zero, suc, ◌+◌, ◌<◌, ◌≤◌, Bool, true, false, not, ◌&&◌, ◌||◌, List, [], ◌∷◌, ◌++◌, length, Option, Some, None, refl, sym, ap, ◌∙◌, subst, arith, append_assoc, append-nil, length-append}
use Rattle.std.specs.Prelude.{slice_get, unwrap_or}
use Rattle.std.specs.List.{list_all}
use Rattle.std.proofs.Math.Dec.{eqb-suc-zero}
use Rattle.std.proofs.Math.Nat.{max-le}
use Rattle.pc_meaning.specs.Tree.{Expression, number, cell, element, unary, chain, Statement, Statements, skip, assign, call_of, block, if_so, repeat, loop, eot, par, abort, none, each, Routine}
use Rattle.pc_meaning.specs.Promises.{AllBelow, is_always_true, is_known, finishes, all_finish, finishing_from}
use Rattle.pc_meaning.proofs.Lookups.{slice_get_middle}
use Rattle.pc_lower.specs.declared.nodes.Test.{Test}
use Rattle.pc_lower.specs.Flow.{Node}
use Rattle.pc_lower.specs.Lowered.{loop_test, bounded_of, node_of, nodes_of, finished, body_of}
use Rattle.pc_lower.specs.Sound.{Fits, AllFit, RoutinesFit}
use Rattle.pc_lower.specs.Loops.{LoopsKept, AllLoopsKept}
use Rattle.pc_lower.specs.Shaped.{is_tested, can_end, can_all_end, IsLasting, AreLasting, loops_in, loops_in_all}
use Rattle.pc_lower.proofs.Shapes.{Nests, AllNest}

-- ---- a node can end where its statement may finish

tested-unless-true : (test : Expression) → is_tested (loop_test test) ≡ not (is_always_true test)
tested-unless-true (number zero) = refl
tested-unless-true (number (suc n)) = ap (λ b. not (not b)) (sym (eqb-suc-zero n))
tested-unless-true (cell place) = refl
tested-unless-true (element first size index) = refl
tested-unless-true (unary op e) = refl
tested-unless-true (chain e rest) = refl

bounded-ends : (ends : ℕ → Bool) (most : ℕ) (test : Option Test) (body : Node) → can_end ends (bounded_of most test body) ≡ true
bounded-ends ends zero test body = refl
bounded-ends ends (suc n) test body = refl

bounded-lasts : (ends : ℕ → Bool) (most : ℕ) (test : Option Test) (body : Node) → IsLasting ends body → IsLasting ends (bounded_of most test body)
bounded-lasts ends zero test body h = tt
bounded-lasts ends (suc n) test body h = (omega arith, h)

module _ (routines : List Routine) (whole : List Bool) where
  abbrev ends : ℕ → Bool
  ends = is_known whole

  mutual
    same-end : (s : Statement) → can_end ends (node_of routines s) ≡ finishes whole s
    same-end skip = refl
    same-end (assign goal e) = refl
    same-end (call_of goal f es) = refl
    same-end (block all) = all-same-end all
    same-end (if_so test first second) = ap (λ b. b || can_end ends (node_of routines second)) (same-end first) ∙ ap (λ b. finishes whole first || b) (same-end second)
    same-end (repeat most test body) = bounded-ends ends most (loop_test test) (node_of routines body)
    same-end (loop test body) = tested-unless-true test
    same-end (eot i) = refl
    same-end (par i threads) = refl
    same-end (abort j weak body test) = same-end body

    all-same-end : (all : Statements) → can_all_end ends (nodes_of routines all) ≡ all_finish whole all
    all-same-end none = refl
    all-same-end (each s rest) = ap (λ b. b && can_all_end ends (nodes_of routines rest)) (same-end s) ∙ ap (λ b. finishes whole s && b) (all-same-end rest)

  mutual
    statement-lasts : (s : Statement) → LoopsKept whole s → IsLasting ends (node_of routines s)
    statement-lasts skip k = tt
    statement-lasts (assign goal e) k = tt
    statement-lasts (call_of goal f es) k = (tt, (tt, (tt, tt)))
    statement-lasts (block all) k = all-lasts all k
    statement-lasts (if_so test first second) k = (statement-lasts first k.0, statement-lasts second k.1)
    statement-lasts (repeat most test body) k = bounded-lasts ends most (loop_test test) (node_of routines body) (statement-lasts body k.1)
    statement-lasts (loop test body) k = (statement-lasts body k.1, same-end body ∙ k.0)
    statement-lasts (eot i) k = tt
    statement-lasts (par i threads) k = tt
    statement-lasts (abort j weak body test) k = statement-lasts body k

    all-lasts : (all : Statements) → AllLoopsKept whole all → AreLasting ends (nodes_of routines all)
    all-lasts none k = tt
    all-lasts (each s rest) k = (statement-lasts s k.0, all-lasts rest k.1)

  -- a result stands behind the body
  pub body-same-end : (r : Routine) → can_end ends (body_of routines r) ≡ all_finish whole r.body
  body-same-end r = by r.result ∙ all-same-end r.body
    where
      with-true : (b : Bool) → (b && true) ≡ b
      with-true true = refl
      with-true false = refl

      by : (result : Option Expression) → can_all_end ends (finished routines result (nodes_of routines r.body)) ≡ can_all_end ends (nodes_of routines r.body)
      by None = refl
      by (Some e) = with-true (can_all_end ends (nodes_of routines r.body))

  pub body-lasts : (r : Routine) → AllLoopsKept whole r.body → IsLasting ends (body_of routines r)
  body-lasts r k = (tt, by r.result)
    where
      by : (result : Option Expression) → AreLasting ends (finished routines result (nodes_of routines r.body))
      by None = all-lasts r.body k
      by (Some e) = (all-lasts r.body k, (tt, tt))

-- ---- what is known of a function is told from it, whatever more is known

module _ (known more : List Bool) where
  known-first : (xs : List Bool) (f : ℕ) → f < length xs → unwrap_or (slice_get (xs ++ more) f) true ≡ unwrap_or (slice_get xs f) true
  known-first [] f less = absurd (omega (arith, less))
  known-first (x ∷ xs) zero less = refl
  known-first (x ∷ xs) (suc f) less = known-first xs f (omega (arith, less))

  threads-first : (fs : List ℕ) → AllBelow (length known) fs → list_all (is_known (known ++ more)) fs ≡ list_all (is_known known) fs
  threads-first [] h = refl
  threads-first (f ∷ fs) h = ap (λ b. b && list_all (is_known (known ++ more)) fs) (known-first known f h.0) ∙ ap (λ b. is_known known f && b) (threads-first fs h.1)

  module _ (routines : List Routine) (aborts : List (Bool × Expression)) where
    mutual
      finishes-first : (s : Statement) → Fits routines aborts (length known) s → finishes (known ++ more) s ≡ finishes known s
      finishes-first skip h = refl
      finishes-first (assign goal e) h = refl
      finishes-first (call_of goal f es) h = refl
      finishes-first (block all) h = all-first all h
      finishes-first (if_so test first second) h = ap (λ b. b || finishes (known ++ more) second) (finishes-first first h.0) ∙ ap (λ b. finishes known first || b) (finishes-first second h.1)
      finishes-first (repeat most test body) h = refl
      finishes-first (loop test body) h = refl
      finishes-first (eot i) h = refl
      finishes-first (par i threads) h = threads-first threads h
      finishes-first (abort j weak body test) h = finishes-first body h.1

      all-first : (all : Statements) → AllFit routines aborts (length known) all → all_finish (known ++ more) all ≡ all_finish known all
      all-first none h = refl
      all-first (each s rest) h = ap (λ b. b && all_finish (known ++ more) rest) (finishes-first s h.0) ∙ ap (λ b. finishes known s && b) (all-first rest h.1)

grows : (known : List Bool) (rs : List Routine) → (more : List Bool) × (finishing_from known rs ≡ known ++ more)
grows known [] = ([], sym (append-nil known))
grows known (r ∷ rs) =
    let one : Bool = all_finish known r.body in
    let g = grows (known ++ one ∷ []) rs in
    (one ∷ g.0, g.1 ∙ append_assoc known (one ∷ []) g.0)

module _ (routines : List Routine) (aborts : List (Bool × Expression)) where
  pub known-from : (whole known : List Bool) (rs : List Routine) (i : ℕ) (r : Routine) → finishing_from known rs ≡ whole → RoutinesFit routines aborts (length known) rs →
      slice_get rs i ≡ Some r → is_known whole (length known + i) ≡ all_finish whole r.body
  known-from whole known [] i r is h there = cc
  known-from whole known (x ∷ rs) zero r is h there =
      let one : Bool = all_finish known x.body in
      let e : x ≡ r = cc in
      let place : length known + 0 ≡ length known = omega arith in
      let rest = grows (known ++ one ∷ []) rs in
      let split : whole ≡ known ++ one ∷ rest.0 = sym is ∙ rest.1 ∙ append_assoc known (one ∷ []) rest.0 in
      ap (is_known whole) place ∙ ap (λ w. is_known w (length known)) split ∙ ap (λ o. unwrap_or o true) (slice_get_middle known one rest.0)
      ∙ sym (all-first known (one ∷ rest.0) routines aborts x.body h.0.body) ∙ ap (λ w. all_finish w x.body) (sym split) ∙ ap (λ (y : Routine). all_finish whole y.body) e
  known-from whole known (x ∷ rs) (suc i) r is h there =
      let one : Bool = all_finish known x.body in
      let grown : suc (length known) ≡ length (known ++ one ∷ []) = (let a = length-append known (one ∷ []) in omega (arith, a)) in
      let place : length known + suc i ≡ length (known ++ one ∷ []) + i = omega (arith, grown) in
      ap (is_known whole) place
      ∙ known-from whole (known ++ one ∷ []) rs i r is (subst (λ m. RoutinesFit routines aborts m rs) grown h.1) there

-- ---- bounded loops

bounded-loops : (most k : ℕ) (test : Option Test) (body : Node) → loops_in body + 1 ≤ k → loops_in (bounded_of most test body) ≤ k
bounded-loops zero k test body h = omega arith
bounded-loops (suc n) k test body h = h

module _ (routines : List Routine) where
  mutual
    few-loops : (a l k : ℕ) → l + k ≡ 8 → (s : Statement) → Nests a l s → loops_in (node_of routines s) ≤ k
    few-loops a l k sum skip n = omega arith
    few-loops a l k sum (assign goal e) n = omega arith
    few-loops a l k sum (call_of goal f es) n = omega arith
    few-loops a l k sum (block all) n = all-few-loops a l k sum all n
    few-loops a l k sum (if_so test first second) n = max-le (few-loops a l k sum first n.0) (few-loops a l k sum second n.1)
    few-loops a l zero sum (repeat most test body) n = absurd (let less = n.0 in omega (arith, sum, less))
    few-loops a l (suc k) sum (repeat most test body) n =
        let h = few-loops a (l + 1) k (omega (arith, sum)) body n.1 in
        bounded-loops most (suc k) (loop_test test) (node_of routines body) (omega (arith, h))
    few-loops a l k sum (loop test body) n = few-loops a l k sum body n
    few-loops a l k sum (eot i) n = omega arith
    few-loops a l k sum (par i threads) n = omega arith
    few-loops a l k sum (abort j weak body test) n = few-loops (a + 1) l k sum body n.1

    all-few-loops : (a l k : ℕ) → l + k ≡ 8 → (all : Statements) → AllNest a l all → loops_in_all (nodes_of routines all) ≤ k
    all-few-loops a l k sum none n = omega arith
    all-few-loops a l k sum (each s rest) n = max-le (few-loops a l k sum s n.0) (all-few-loops a l k sum rest n.1)

  pub body-few-loops : (r : Routine) → AllNest 0 0 r.body → loops_in (body_of routines r) ≤ 8
  body-few-loops r n = max-le none-here (by r.result)
    where
      none-here : 0 ≤ 8
      none-here = omega arith

      by : (result : Option Expression) → loops_in_all (finished routines result (nodes_of routines r.body)) ≤ 8
      by None = all-few-loops 0 0 8 refl r.body n
      by (Some e) = max-le (all-few-loops 0 0 8 refl r.body n) (max-le none-here none-here)
