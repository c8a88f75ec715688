-- What a node does from its start is what its statement does.
use Rattle.std.proofs.Common.{◌≡◌, ℕ, zero, suc, ◌<◌, ◌^◌, ◌%◌, Bool, true, false, ◌==◌, List, [], ◌∷◌, Option, Some, None, refl, sym, ap, ◌∙◌, subst, arith}
use Rattle.std.specs.Prelude.{ℤ, pos, negsuc, if◌then◌else◌}
use Rattle.std.specs.Int.{w32, cast_unsigned, int_wrap}
use Rattle.std.proofs.lemmas.Int.{of_z-to_z}
use Rattle.pt_base.specs.Operators.{is_true, word_of, not_of}
use Rattle.pc_meaning.specs.Tree.{Expression, number, cell, element, unary, chain, Goal, Statement, Statements, skip, assign, call_of, block, if_so, repeat, loop, eot, par, abort, none, each, Routine}
use Rattle.pc_meaning.specs.Values.{value, values, put, holds, set_all}
use Rattle.pc_meaning.specs.Outcomes.{Done, store_of, followed}
use Rattle.pc_meaning.specs.Statements.{routine_at, Known, known_at, returned, starting, start, start_all}
use Rattle.pc_lower.specs.declared.nodes.Place.TheVariants.{Temp as temp}
use Rattle.pc_lower.specs.declared.nodes.Test.{Test}
use Rattle.pc_lower.specs.Flow.{State, tested, decides, run, turns, no_nodes, and, Through, state_of, then_do, Flows, flow_at, begins, go, go_all}
use Rattle.pc_lower.specs.Lowered.{test_of, loop_test, bounded_of, passed, node_of, nodes_of}
use Rattle.pc_meaning.specs.Promises.{LiteralFits, AllBelow}
use Rattle.pc_lower.specs.Sound.{Fits, AllFit, CallFits}
use Rattle.pc_lower.specs.Laws.{Same, SameFrom}
use Rattle.pc_lower.proofs.Moves.{passed_sets, assigned, returned_puts, test_decides, test_keeps}
use Rattle.pc_lower.proofs.Ends.{Decides, same_store, same_if, same_followed, same_aborting, SameJobs, same_joined, same_looping}

-- ---- tests of loops

literal-unsigned : (m : ℕ) → m < 2 ^ 32 → cast_unsigned w32 (word_of (pos m)) ≡ m
unfolding int_wrap
literal-unsigned m less = of_z-to_z w32 (m % 2 ^ 32) (omega arith) ∙ grind (arith, less)

not-zero : (n : ℕ) (z : ℤ) → cast_unsigned w32 z ≡ suc n → is_true z ≡ true
not-zero n (pos zero) is = absurd (omega (arith, is))
not-zero n (pos (suc k)) is = let e : (suc k == 0) ≡ false = grind arith in ap not_of e
not-zero n (negsuc k) is = refl

looked : (e : Expression) → Decides e (Some (test_of e))
looked e = λ store w is. (test_decides e w ∙ ap (holds e) is, test_keeps e w ∙ is)

pub test_fits : (test : Expression) → LiteralFits test → Decides test (loop_test test)
test_fits (number zero) small = looked (number 0)
test_fits (number (suc n)) small = λ store. not-zero n (word_of (pos (suc n))) (literal-unsigned (suc n) small)
test_fits (cell place) small = looked (cell place)
test_fits (element first size index) small = looked (element first size index)
test_fits (unary op e) small = looked (unary op e)
test_fits (chain e rest) small = looked (chain e rest)

module _ (routines : List Routine) (known : Known) (flows : Flows) where
  same_loop : (test : Expression) (body : Statement) (t : Option Test) → loop_test test ≡ t → Decides test t → SameFrom routines (start routines known body) (go flows (node_of routines body)) →
      SameFrom routines (start routines known (loop test body)) (go flows (turns t (node_of routines body)))
  same_loop test body None is decide same store w here =
      subst (λ b. Same routines (if b then followed (start routines known body store) (each (loop test body) none) Done else Done store) (then_do (go flows (node_of routines body) w) (and (turns None (node_of routines body)) no_nodes) Through)) (sym (decide store)) (
      same_followed routines (start routines known body store) (go flows (node_of routines body) w) (each (loop test body) none) (and (turns None (node_of routines body)) no_nodes) Done Through
      (ap (λ x. and (turns x (node_of routines body)) no_nodes) (sym is)) (same store w here) (λ later v e. e)
      )
  same_loop test body (Some t) is decide same store w here =
      let h = decide store w here in
      same_if routines (decides t w) (holds test store) (followed (start routines known body store) (each (loop test body) none) Done) (Done store)
      (then_do (go flows (node_of routines body) (tested t w)) (and (turns (Some t) (node_of routines body)) no_nodes) Through) (Through (tested t w)) h.0
      (same_followed routines (start routines known body store) (go flows (node_of routines body) (tested t w)) (each (loop test body) none) (and (turns (Some t) (node_of routines body)) no_nodes) Done Through
      (ap (λ x. and (turns x (node_of routines body)) no_nodes) (sym is)) (same store (tested t w) h.1) (λ later v e. e))
      h.1

  same_repeat : (most : ℕ) (test : Expression) (body : Statement) (t : Option Test) → Decides test t → SameFrom routines (start routines known body) (go flows (node_of routines body)) →
      SameFrom routines (start routines known (repeat most test body)) (go flows (bounded_of most t (node_of routines body)))
  same_repeat zero test body t decide same store w here = here
  same_repeat (suc n) test body t decide same store w here = same_looping routines (suc n) test t (start routines known body) (go flows (node_of routines body)) decide same store w here

  module _ (count : ℕ) (same : (f : ℕ) → f < count → SameFrom routines (known_at known f) (flow_at flows f)) where
    same_begins : (fs : List ℕ) → AllBelow count fs → SameJobs routines (starting known fs) (begins flows fs)
    same_begins [] below = tt
    same_begins (f ∷ fs) below = (same f below.0, same_begins fs below.1)

    module _ (aborts : List (Bool × Expression)) (back : (f : ℕ) → f < count → (e : Expression) → (routine_at routines f).result ≡ Some e → (w : State) → (state_of (flow_at flows f w)).temps (temp 0) ≡ value e (state_of (flow_at flows f w)).store) where
      same_call : (goal : Goal) (f : ℕ) (es : List Expression) → CallFits routines aborts count goal f es → SameFrom routines (start routines known (call_of goal f es)) (go flows (node_of routines (call_of goal f es)))
      same_call goal f es fits store w here =
          let r = routine_at routines f in
          let v = run (passed r.parameters es) w in
          let u = state_of (flow_at flows f v) in
          let set : v.store ≡ set_all r.parameters (values es store) store = passed_sets r.parameters es w fits.apart ∙ ap (λ s. set_all r.parameters (values es s) s) here in
          let done : u.store ≡ store_of (known_at known f (set_all r.parameters (values es store) store)) = same_store routines (known_at known f (set_all r.parameters (values es store) store)) (flow_at flows f v) (same f fits.below (set_all r.parameters (values es store) store) v set) in
          returned_puts goal r.result u fits.gives (λ e is. back f fits.below e is v) ∙ ap (returned r goal) done

      mutual
        pub same_start : (s : Statement) → Fits routines aborts count s → SameFrom routines (start routines known s) (go flows (node_of routines s))
        same_start skip fits store w here = here
        same_start (assign goal e) fits store w here = assigned goal e w ∙ ap (λ s. put goal (value e s) s) here
        same_start (call_of goal f es) fits store w here = same_call goal f es fits store w here
        same_start (block all) fits store w here = same_start_all all fits store w here
        same_start (if_so test first second) fits store w here =
            same_if routines (decides (test_of test) w) (holds test store) (start routines known first store) (start routines known second store)
            (go flows (node_of routines first) (tested (test_of test) w)) (go flows (node_of routines second) (tested (test_of test) w))
            (test_decides test w ∙ ap (holds test) here)
            (same_start first fits.0 store (tested (test_of test) w) (test_keeps test w ∙ here))
            (same_start second fits.1 store (tested (test_of test) w) (test_keeps test w ∙ here))
        same_start (repeat most test body) fits store w here = same_repeat most test body (loop_test test) (test_fits test fits.0) (same_start body fits.1) store w here
        same_start (loop test body) fits store w here = same_loop test body (loop_test test) refl (test_fits test fits.0) (same_start body fits.1) store w here
        same_start (eot i) fits store w here = (refl, here)
        same_start (par i threads) fits store w here = same_joined routines i (starting known threads) (begins flows threads) (same_begins threads fits) store w here
        same_start (abort j weak body test) fits store w here = same_aborting routines j weak test (start routines known body store) (go flows (node_of routines body) w) (same_start body fits.1 store w here)

        pub same_start_all : (all : Statements) → AllFit routines aborts count all → SameFrom routines (start_all routines known all) (go_all flows (nodes_of routines all))
        same_start_all none fits store w here = here
        same_start_all (each s rest) fits store w here =
            same_followed routines (start routines known s store) (go flows (node_of routines s) w) rest (nodes_of routines rest) (start_all routines known rest) (go_all flows (nodes_of routines rest)) refl
            (same_start s fits.0 store w here) (same_start_all rest fits.1)
