-- The flow of a program calls and starts earlier functions alone, and its conditions change no cell.
use Rattle.std.proofs.Common.{◌≡◌, ℕ, zero, suc, ◌+◌, ◌<◌, Bool, List, [], ◌∷◌, length, Option, Some, None, refl, sym, ap, ◌∙◌, subst, arith}
use Rattle.std.specs.List.{AllByRecursion}
use Rattle.pc_meaning.specs.Tree.{Expression, Statement, Statements, skip, assign, call_of, block, if_so, repeat, loop, eot, par, abort, none, each, Routine, Program}
use Rattle.pc_meaning.specs.Values.{holds}
use Rattle.pc_meaning.specs.Promises.{AllBelow}
use Rattle.pc_lower.specs.declared.nodes.Test.{Test}
use Rattle.pc_lower.specs.Flow.{Node, Nodes, abort_at}
use Rattle.pc_lower.specs.Lowered.{test_of, loop_test, bounded_of, node_of, nodes_of, finished, bodies_of, conditions_of, flow_of}
use Rattle.pc_lower.specs.Aborts.{aborts_of}
use Rattle.pc_lower.specs.Sound.{Fits, AllFit, RoutinesFit, ProgramFits}
use Rattle.pc_lower.proofs.Values.{leaves_value}
use Rattle.pc_lower.proofs.Moves.{test_decides}
use Rattle.pc_lower.specs.Program.{IsEarlier, AreEarlier, InOrder}
use Rattle.pc_lower.specs.Image.{IsQuiet, condition_of}

pub bodies-long : (routines rest : List Routine) → length (bodies_of routines rest) ≡ length rest
bodies-long routines [] = refl
bodies-long routines (r ∷ rest) = ap suc (bodies-long routines rest)

module _ (routines : List Routine) (aborts : List (Bool × Expression)) (count : ℕ) where
  all-below : (fs : List ℕ) → AllBelow count fs → AllByRecursion (λ f. f < count) fs
  all-below [] h = tt
  all-below (f ∷ fs) h = (h.0, all-below fs h.1)

  bounded-earlier : (most : ℕ) (test : Option Test) (body : Node) → IsEarlier count body → IsEarlier count (bounded_of most test body)
  bounded-earlier zero test body h = tt
  bounded-earlier (suc n) test body h = h

  mutual
    earlier : (s : Statement) → Fits routines aborts count s → IsEarlier count (node_of routines s)
    earlier skip h = tt
    earlier (assign goal e) h = tt
    earlier (call_of goal f es) h = (tt, (h.below, (tt, tt)))
    earlier (block all) h = all-earlier all h
    earlier (if_so test first second) h = (earlier first h.0, earlier second h.1)
    earlier (repeat most test body) h = bounded-earlier most (loop_test test) (node_of routines body) (earlier body h.1)
    earlier (loop test body) h = earlier body h.1
    earlier (eot i) h = tt
    earlier (par i threads) h = all-below threads h
    earlier (abort j weak body test) h = earlier body h.1

    all-earlier : (all : Statements) → AllFit routines aborts count all → AreEarlier count (nodes_of routines all)
    all-earlier none h = tt
    all-earlier (each s rest) h = (earlier s h.0, all-earlier rest h.1)

  finished-earlier : (result : Option Expression) (nodes : Nodes) → AreEarlier count nodes → AreEarlier count (finished routines result nodes)
  finished-earlier None nodes h = h
  finished-earlier (Some e) nodes h = (h, (tt, tt))

pub in-order : (routines : List Routine) (aborts : List (Bool × Expression)) (n : ℕ) (rest : List Routine) → RoutinesFit routines aborts n rest → InOrder n (bodies_of routines rest)
in-order routines aborts n [] h = tt
in-order routines aborts n (r ∷ rest) h =
    let e : suc n ≡ n + 1 = omega arith in (
      (tt, finished-earlier routines aborts n r.result (nodes_of routines r.body) (all-earlier routines aborts n r.body h.0.body)),
      subst (λ k. InOrder k (bodies_of routines rest)) e (in-order routines aborts (suc n) rest h.1),
    )

pub flow-in-order : (p : Program) → ProgramFits p → InOrder 0 (flow_of p).bodies
flow-in-order p fit = in-order p.routines (aborts_of p.routines) 0 p.routines fit.routines

-- ---- conditions

test-quiet : (e : Expression) → IsQuiet (test_of e)
test-quiet e w v same = (test_decides e w ∙ ap (holds e) same ∙ sym (test_decides e v), (leaves_value e 0 w).store)

conditions-quiet : (aborts : List (Bool × Expression)) (j : ℕ) → j < length (conditions_of aborts) → IsQuiet (abort_at (conditions_of aborts) j).1
conditions-quiet [] j less = absurd (omega (arith, less))
conditions-quiet (a ∷ aborts) zero less = test-quiet a.1
conditions-quiet (a ∷ aborts) (suc j) less = conditions-quiet aborts j (omega (arith, less))

pub flow-quiet : (p : Program) (j : ℕ) → j < length (flow_of p).aborts → IsQuiet (condition_of (flow_of p) j)
flow-quiet p j less = conditions-quiet (aborts_of p.routines) j less
