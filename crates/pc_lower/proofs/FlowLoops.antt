-- The node of a statement can be laid out.
use Rattle.std.proofs.Common.{◌≡◌, ℕ, zero, suc, ◌+◌, ◌<◌, Bool, false, List, [], length, Option, Some, None, refl}
use Rattle.std.specs.Prelude.{◌^◌}
use Rattle.pc_meaning.specs.Tree.{Expression, Statement, Statements, skip, assign, call_of, block, if_so, repeat, loop, eot, par, abort, none, each, Routine, Program}
use Rattle.pc_meaning.specs.Outcomes.{Outcome, Done, Paused}
use Rattle.pc_meaning.specs.Statements.{start, starts_of}
use Rattle.pc_meaning.specs.Promises.{IsPaused, Lasts as CannotFinish, AllLast, finishes, finishing_of, RoutinesLast}
use Rattle.pc_meaning.proofs.Functions.{statement_lasts}
use Rattle.pc_lower.specs.declared.nodes.Test.{Test}
use Rattle.pc_lower.specs.Flow.{State, Rest, Node, Nodes, End, Through, Halted, Flows, go, flows_of}
use Rattle.pc_lower.specs.Lowered.{loop_test, bounded_of, node_of, nodes_of, finished, body_of, bodies_of}
use Rattle.pc_lower.specs.Aborts.{aborts_of}
use Rattle.pc_lower.specs.Sound.{Fits, AllFit, ProgramFits}
use Rattle.pc_lower.specs.Loops.{LoopsKept, AllLoopsKept}
use Rattle.pc_lower.specs.Laws.{Same}
use Rattle.pc_lower.proofs.StatementFacts.{same_start}
use Rattle.pc_lower.proofs.Whole.{meets_at}
use Rattle.pc_lower.specs.Laid.{Lasts, Passes}
use Rattle.pc_lower.specs.Layable.{IsLayable, AreLayable}
use Rattle.pc_lower.proofs.Nestings.{LiteralsFit, AllLiteralsFit}
use Rattle.pc_lower.proofs.Shapes.{Nests, AllNest}
use Rattle.pc_lower.proofs.NodeFacts.{passes, instant}

halts : (routines : List Routine) (o : Outcome) (e : End) → IsPaused o → Same routines o e → (r : Rest) × (after : State) × (e ≡ Halted r after)
halts routines (Done store) e paused same = absurd paused
halts routines (Paused r store) (Through w) paused same = absurd same
halts routines (Paused r store) (Halted q w) paused same = (q, w, refl)

module _ (p : Program) (fit : ProgramFits p) (last : RoutinesLast [] p.routines) where
  abbrev whole : List Bool
  whole = finishing_of p.routines

  abbrev flows : Flows
  flows = flows_of (bodies_of p.routines p.routines)

  abbrev FitsHere : Statement → Type 0
  FitsHere = Fits p.routines (aborts_of p.routines) (length p.routines)

  abbrev AllFitHere : Statements → Type 0
  AllFitHere = AllFit p.routines (aborts_of p.routines) (length p.routines)

  -- no loop in it is left by its body
  mutual
    cannot-finish : (s : Statement) → FitsHere s → LoopsKept whole s → CannotFinish whole s
    cannot-finish skip h k = tt
    cannot-finish (assign goal e) h k = tt
    cannot-finish (call_of goal f es) h k = tt
    cannot-finish (block all) h k = none-finish all h k
    cannot-finish (if_so test first second) h k = (cannot-finish first h.0 k.0, cannot-finish second h.1 k.1)
    cannot-finish (repeat most test body) h k = cannot-finish body h.1 k.1
    cannot-finish (loop test body) h k = (h.0, k.0, cannot-finish body h.1 k.1)
    cannot-finish (eot i) h k = tt
    cannot-finish (par i threads) h k = tt
    cannot-finish (abort j weak body test) h k = cannot-finish body h.1 k

    none-finish : (all : Statements) → AllFitHere all → AllLoopsKept whole all → AllLast whole all
    none-finish none h k = tt
    none-finish (each s rest) h k = (cannot-finish s h.0 k.0, none-finish rest h.1 k.1)

  lasting : (s : Statement) → FitsHere s → LoopsKept whole s → finishes whole s ≡ false → Lasts flows (node_of p.routines s)
  lasting s h k never w =
      halts p.routines (start p.routines (starts_of p.routines) s w.store) (go flows (node_of p.routines s) w)
      (statement_lasts p.routines last s (cannot-finish s h k) never w.store)
      (same_start p.routines (starts_of p.routines) flows (length p.routines) (λ f less. (meets_at p fit f less).same) (aborts_of p.routines) (λ f less. (meets_at p fit f less).back) s h w.store w refl)

  bounded-layable : (d most : ℕ) (test : Option Test) (body : Node) → most < 2 ^ 32 → Passes flows body → IsLayable flows d body → IsLayable flows d (bounded_of most test body)
  bounded-layable d zero test body small pass h = tt
  bounded-layable d (suc n) test body small pass h = (small, pass, h)

  mutual
    layable : (d l : ℕ) (s : Statement) → FitsHere s → LoopsKept whole s → Nests d l s → LiteralsFit s → IsLayable flows d (node_of p.routines s)
    layable d l skip h k n t = tt
    layable d l (assign goal e) h k n t = tt
    layable d l (call_of goal f es) h k n t = (tt, (tt, (tt, tt)))
    layable d l (block all) h k n t = all-layable d l all h k n t
    layable d l (if_so test first second) h k n t = (layable d l first h.0 k.0 n.0 t.0, layable d l second h.1 k.1 n.1 t.1)
    layable d l (repeat most test body) h k n t =
        bounded-layable d most (loop_test test) (node_of p.routines body) t.2 (passes flows (node_of p.routines body) (instant p.routines body k.0)) (layable d (l + 1) body h.1 k.1 n.1 t.1)
    layable d l (loop test body) h k n t = (lasting body h.1 k.1 k.0, layable d l body h.1 k.1 n t.1)
    layable d l (eot i) h k n t = tt
    layable d l (par i threads) h k n t = t
    layable d l (abort j weak body test) h k n t = (n.0, layable (d + 1) l body h.1 k n.1 t)

    all-layable : (d l : ℕ) (all : Statements) → AllFitHere all → AllLoopsKept whole all → AllNest d l all → AllLiteralsFit all → AreLayable flows d (nodes_of p.routines all)
    all-layable d l none h k n t = tt
    all-layable d l (each s rest) h k n t = (layable d l s h.0 k.0 n.0 t.0, all-layable d l rest h.1 k.1 n.1 t.1)

  finished-layable : (d : ℕ) (result : Option Expression) (nodes : Nodes) → AreLayable flows d nodes → AreLayable flows d (finished p.routines result nodes)
  finished-layable d None nodes h = h
  finished-layable d (Some e) nodes h = (h, (tt, tt))

  pub body-layable : (r : Routine) → AllFitHere r.body → AllLoopsKept whole r.body → AllNest 0 0 r.body → AllLiteralsFit r.body → IsLayable flows 0 (body_of p.routines r)
  body-layable r h k n t = (tt, finished-layable 0 r.result (nodes_of p.routines r.body) (all-layable 0 0 r.body h k n t))
